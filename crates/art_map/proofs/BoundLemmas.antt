-- Bounds of ranges: their gaps, and the words that std has for them.
use Rattle.std.proofs.Common.{◌≡◌, ℕ, Bool, true, false, not, ◌&&◌, List, [], All, length, take, drop, filter, refl, sym, ap, subst, arith}
use Rattle.std.proofs.lemmas.List.{drop_all}
use Rattle.std.proofs.lemmas.List.Elements.{All-nil, filter_agree}
use Rattle.std.specs.BTreeMap.Range.{entries_between, is_from_start, is_past_end}
use Rattle.std.specs.Borrow.{Bor}
use Rattle.std.specs.Range.Bound.{bound_map}
use Rattle.std.specs.Ordering.{is_eq, is_le, ordering_then}
use Rattle.std.specs.declared.cmp.Ordering.{Ordering}
use Rattle.std.specs.declared.cmp.Ordering.TheVariants.{Less, Equal, Greater}
use Rattle.std.specs.declared.ops.Bound.{Bound}
use Rattle.std.specs.declared.ops.Bound.TheVariants.{Included, Excluded, Unbounded}
use Rattle.art_map.specs.Gaps.{is_behind}
use Rattle.art_map.specs.Ranges.{is_from, is_past}
use Rattle.art_map.specs.Seats.{IsGapOf}

-- the gap of a bound is that of its query
module _ {Q K V : Type 0} (compare : Q → K → Ordering) (bound : Bound Q) (entries : List (K × V)) (place : ℕ) where
  abbrev IsStart : Bound Q → Type 0
  IsStart bound = IsGapOf (λ (entry : K × V). is_from compare bound entry.0) entries place

  abbrev IsEnd : Bound Q → Type 0
  IsEnd bound = IsGapOf (λ (entry : K × V). is_past compare bound entry.0) entries place

  abbrev IsGapBy : Q → Bool → Type 0
  IsGapBy query after = IsGapOf (λ (entry : K × V). is_behind (compare query) after entry.0) entries place

  pub from-included : (query : Q) → bound ≡ Included query → IsGapBy query false → IsGapOf (λ (entry : K × V). is_from compare bound entry.0) entries place
  from-included query is gap = subst IsStart (sym is) gap

  pub from-excluded : (query : Q) → bound ≡ Excluded query → IsGapBy query true → IsGapOf (λ (entry : K × V). is_from compare bound entry.0) entries place
  from-excluded query is gap = subst IsStart (sym is) gap

  pub from-first : bound ≡ Unbounded → place ≡ 0 → IsGapOf (λ (entry : K × V). is_from compare bound entry.0) entries place
  from-first is start =
      let none : take place entries ≡ [] = ap (λ n. take n entries) start in
      subst IsStart (sym is) (subst (All (λ (entry : K × V). true ≡ false)) (sym none) (All-nil (λ (entry : K × V). true ≡ false)), λ k d inside. refl)

  pub past-included : (query : Q) → bound ≡ Included query → IsGapBy query true → IsGapOf (λ (entry : K × V). is_past compare bound entry.0) entries place
  past-included query is gap = subst IsEnd (sym is) gap

  pub past-excluded : (query : Q) → bound ≡ Excluded query → IsGapBy query false → IsGapOf (λ (entry : K × V). is_past compare bound entry.0) entries place
  past-excluded query is gap = subst IsEnd (sym is) gap

  pub past-last : bound ≡ Unbounded → place ≡ length entries → IsGapOf (λ (entry : K × V). is_past compare bound entry.0) entries place
  past-last is end =
      let none : drop place entries ≡ [] = drop_all place entries (omega (arith, end)) in
      subst IsEnd (sym is) (λ k d inside. refl, subst (All (λ (entry : K × V). false ≡ true)) (sym none) (All-nil (λ (entry : K × V). false ≡ true)))

-- ranges of keys behind references are std's
module _ {K : Type 0} (cmp : K → K → Ordering) where
  from-same : (start : Bound (Bor K)) (key : K) → is_from (λ (query : Bor K). cmp query.now) start key ≡ is_from_start cmp (bound_map (λ query. query.now) start) key
  from-same (Included query) key = refl
  from-same (Excluded query) key = refl
  from-same Unbounded key = refl

  past-same : (end : Bound (Bor K)) (key : K) → is_past (λ (query : Bor K). cmp query.now) end key ≡ is_past_end cmp (bound_map (λ query. query.now) end) key
  past-same (Included query) key = refl
  past-same (Excluded query) key = refl
  past-same Unbounded key = refl

  pub range-same : {V : Type 0} (start end : Bound (Bor K)) (entries : List (K × V))
      → filter (λ (entry : K × V). is_from (λ (query : Bor K). cmp query.now) start entry.0 && not (is_past (λ (query : Bor K). cmp query.now) end entry.0)) entries
      ≡ entries_between cmp (bound_map (λ query. query.now) start) (bound_map (λ query. query.now) end) entries
  range-same {V} start end entries = filter_agree _ _ (λ (entry : K × V). λ i. from-same start entry.0 i && not (past-same end entry.0 i)) entries

-- between the two bounds of a prefix are the keys that begin with it
pub between-bounds : (order : Ordering) → (is_le (ordering_then order Less) && not (is_le (ordering_then order Greater))) ≡ is_eq order
between-bounds Less = refl
between-bounds Equal = refl
between-bounds Greater = refl

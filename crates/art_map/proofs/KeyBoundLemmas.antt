-- The first and the last of entries that ascend: no key is beyond theirs.
use Rattle.std.proofs.Common.{◌≡◌, ◌∙◌, Bool, true, false, cond, List, [], ◌∷◌, ◌++◌, All, Option, Some, None, is_some, refl, sym, ap, subst}
use Rattle.std.proofs.lemmas.Cmp.{tied_itself}
use Rattle.std.proofs.lemmas.List.Elements.{All-nil, All-cons, All-head, All-tail, All-append, All-weaker}
use Rattle.std.specs.Cmp.{IsTotalOrder}
use Rattle.std.specs.Option.{IfNone, IfSome, MatchOption}
use Rattle.std.specs.Ordering.{is_eq, is_gt, is_lt, ordering_reverse}
use Rattle.std.specs.declared.cmp.Ordering.{Ordering}
use Rattle.std.specs.declared.cmp.Ordering.TheVariants.{Less, Equal, Greater}
use Rattle.art_pages.specs.Entries.{IsOrdered, get_by}
use Rattle.art_map.specs.KeyBounds.{IsLowerBound, IsUpperBound}
use Rattle.art_map.proofs.EndLemmas.{above-others, below-others, value-first, value-last}

same-to-equal : {K : Type 0} (cmp : K → K → Ordering) (total : IsTotalOrder cmp) (key one other : K) → cmp other one ≡ Equal → cmp key other ≡ cmp key one
same-to-equal cmp total key one other equal =
    total.antisymm key other ∙ ap ordering_reverse (total.congr other one key equal) ∙ sym (total.antisymm key one)

module _ {K V : Type 0} (cmp : K → K → Ordering) (total : IsTotalOrder cmp) where
  -- where no key is beyond one, none that is found is
  pub none-found-beyond : (beyond : Ordering → Bool) (key : K) (entries : List (K × V)) → All (λ one. beyond (cmp key one.0) ≡ false) entries
      → (other : K) → is_some (get_by (cmp other) entries) ≡ true → beyond (cmp key other) ≡ false
  none-found-beyond beyond key [] all other has = absurd (cc)
  none-found-beyond beyond key (one ∷ entries) all other has =
      by_order (cmp other one.0) refl has (none-found-beyond beyond key entries (All-tail (λ one. beyond (cmp key one.0) ≡ false) one entries all) other)
    where
      by_order : (o : Ordering) → cmp other one.0 ≡ o → is_some (cond (is_eq o) (Some one.1) (get_by (cmp other) entries)) ≡ true
          → (is_some (get_by (cmp other) entries) ≡ true → beyond (cmp key other) ≡ false) → beyond (cmp key other) ≡ false
      by_order Less is has later = later has
      by_order Equal is has later = ap beyond (same-to-equal cmp total key one.0 other is) ∙ All-head (λ one. beyond (cmp key one.0) ≡ false) one entries all
      by_order Greater is has later = later has

  pub first-lowest : (entries rest : List (K × V)) (first : K × V) → entries ≡ first ∷ rest → IsOrdered cmp entries → All (λ other. is_gt (cmp first.0 other.0) ≡ false) entries
  first-lowest entries rest first is ordered =
      subst (All (λ other. is_gt (cmp first.0 other.0) ≡ false)) (sym is)
      (All-cons (λ other. is_gt (cmp first.0 other.0) ≡ false) first rest (ap is_gt (tied_itself total first.0))
      (All-weaker (λ other. cmp first.0 other.0 ≡ Less) (λ other. is_gt (cmp first.0 other.0) ≡ false) (λ other less. ap is_gt less) rest
      (above-others cmp total entries rest first is ordered)))

  pub last-highest : (entries rest : List (K × V)) (last : K × V) → entries ≡ rest ++ last ∷ [] → IsOrdered cmp entries → All (λ other. is_lt (cmp last.0 other.0) ≡ false) entries
  last-highest entries rest last is ordered =
      subst (All (λ other. is_lt (cmp last.0 other.0) ≡ false)) (sym is)
      (All-append (λ other. is_lt (cmp last.0 other.0) ≡ false) rest (last ∷ [])
      (All-weaker (λ other. cmp last.0 other.0 ≡ Greater) (λ other. is_lt (cmp last.0 other.0) ≡ false) (λ other greater. ap is_lt greater) rest
      (below-others cmp total entries rest last is ordered))
      (All-cons (λ other. is_lt (cmp last.0 other.0) ≡ false) last [] (ap is_lt (tied_itself total last.0)) (All-nil (λ other. is_lt (cmp last.0 other.0) ≡ false))))

-- what an iterator yields of entries that ascend, first and last
module _ {K V A : Type 0} (cmp : K → K → Ordering) (total : IsTotalOrder cmp) (seen : A → K × V) (list entries rest : List (K × V)) (is : list ≡ entries) (ordered : IsOrdered cmp entries) where
  pub first-says : (result : Option A) → MatchOption result ((list ≡ []) × (rest ≡ [])) (λ entry. list ≡ seen entry ∷ rest)
      → IfSome result (λ entry. get_by (cmp (seen entry).0) entries ≡ Some (seen entry).1) × IfSome result (λ entry. IsLowerBound cmp entries (seen entry).0)
      × IfSome result (λ entry. All (λ other. is_gt (cmp (seen entry).0 other.0) ≡ false) entries) × IfNone result (entries ≡ [])
  first-says None none = (tt, tt, tt, sym is ∙ none.0)
  first-says (Some entry) first =
      let lowest = first-lowest cmp total entries rest (seen entry) (sym is ∙ first) ordered in
      (value-first cmp total entries rest (seen entry) (sym is ∙ first), none-found-beyond cmp total is_gt (seen entry).0 entries lowest, lowest, tt)

  pub last-says : (result : Option A) → MatchOption result ((list ≡ []) × (rest ≡ [])) (λ entry. list ≡ rest ++ seen entry ∷ [])
      → IfSome result (λ entry. get_by (cmp (seen entry).0) entries ≡ Some (seen entry).1) × IfSome result (λ entry. IsUpperBound cmp entries (seen entry).0)
      × IfSome result (λ entry. All (λ other. is_lt (cmp (seen entry).0 other.0) ≡ false) entries) × IfNone result (entries ≡ [])
  last-says None none = (tt, tt, tt, sym is ∙ none.0)
  last-says (Some entry) last =
      let highest = last-highest cmp total entries rest (seen entry) (sym is ∙ last) ordered in
      (value-last cmp total entries rest (seen entry) (sym is ∙ last) ordered, none-found-beyond cmp total is_lt (seen entry).0 entries highest, highest, tt)

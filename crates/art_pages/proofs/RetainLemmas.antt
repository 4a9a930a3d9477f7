-- Tests made of entries in turn: of one list after another, and what they leave.
use Rattle.std.proofs.Common.{◌≡◌, ◌∙◌, ◌≤◌, Bool, true, false, cond, List, [], ◌∷◌, ◌++◌, length, append_assoc, refl, sym, ap, subst, arith}
use Rattle.std.proofs.lemmas.List.Elements.{All-cons, All-head, All-tail}
use Rattle.std.specs.List.{FoldsTo}
use Rattle.std.specs.Map.Calls.{CallableOnEachPair, RetainsPairs, SomeCallAtPair}
use Rattle.std.specs.declared.cmp.Ordering.{Ordering}
use Rattle.std.specs.declared.cmp.Ordering.TheVariants.{Less}
use Rattle.art_pages.specs.Entries.{IsOrdered}
use Rattle.art_pages.specs.Retaining.{RetainsTo}
use Rattle.art_pages.proofs.OrderLemmas.{AllKeys, above-first, ordered-cons, ordered-right}

module _ {F K V : Type 0} (T : F → K → V → Bool → V → F → Type 0) where
  -- the entries that stay, and those that stay of others behind them
  pub retains-append : (a kept : List (K × V)) (f f' : F) → RetainsTo T f a kept f' → (b rest : List (K × V)) (last : F) → RetainsTo T f' b rest last → RetainsTo T f (a ++ b) (kept ++ rest) last
  retains-append [] kept f f' (same, none) b rest last later =
      subst (λ l. RetainsTo T f b (l ++ rest) last) (sym none) (subst (λ s. RetainsTo T s b rest last) (sym same) later)
  retains-append (entry ∷ a) kept f f' (true, value, next, left, step, on, is) b rest last later =
      (true, value, next, left ++ rest, step, retains-append a left next f' on b rest last later, ap (λ l. l ++ rest) is)
  retains-append (entry ∷ a) kept f f' (false, value, next, left, step, on, is) b rest last later =
      (false, value, next, left ++ rest, step, retains-append a left next f' on b rest last later, ap (λ l. l ++ rest) is)

  -- without the test that is left
  pub retains-pairs : (entries kept : List (K × V)) (f last : F) → RetainsTo T f entries kept last → RetainsPairs T f entries kept
  retains-pairs [] kept f last (same, none) = none
  retains-pairs (entry ∷ entries) kept f last (keeps, value, next, left, step, on, is) = (keeps, value, next, left, step, retains-pairs entries left next last on, is)

  -- without the entries that stay
  retains-folds : (entries kept : List (K × V)) (f f' : F) → RetainsTo T f entries kept f' → (before : List (K × V)) (last : F) → FoldsTo (SomeCallAtPair T) f' before last → FoldsTo (SomeCallAtPair T) f (entries ++ before) last
  retains-folds [] kept f f' (same, none) before last folds = subst (λ s. FoldsTo (SomeCallAtPair T) s before last) (sym same) folds
  retains-folds (entry ∷ entries) kept f f' (keeps, value, next, left, step, on, is) before last folds =
      (next, (keeps, value, step), retains-folds entries left next f' on before last folds)

  module _ (Q : F → K → V → Type 0) where
    -- a test that may be made of entries may be made of the first ones
    pub callable-front : (a b : List (K × V)) (f : F) → CallableOnEachPair T Q f (a ++ b) → CallableOnEachPair T Q f a
    callable-front a b f callable = record { at = λ before after f' key value is folds. callable.at before (after ++ b) f' key value (ap (λ l. l ++ b) is ∙ append_assoc before ((key, value) ∷ after) b) folds }

    -- and then of the others
    pub callable-back : (a b : List (K × V)) (f : F) → CallableOnEachPair T Q f (a ++ b) → (kept : List (K × V)) (f' : F) → RetainsTo T f a kept f' → CallableOnEachPair T Q f' b
    callable-back a b f callable kept f' tested = record {
      at = λ before after last key value is folds. callable.at (a ++ before) after last key value (ap (λ l. a ++ l) is ∙ sym (append_assoc a before ((key, value) ∷ after))) (retains-folds a kept f f' tested before last folds);
    }

  -- what holds of all keys holds of those that stay
  pub keys-retained : (P : K → Type 0) (entries kept : List (K × V)) (f last : F) → RetainsTo T f entries kept last → AllKeys P entries → AllKeys P kept
  keys-retained P [] kept f last (same, none) all = subst (AllKeys P) (sym none) all
  keys-retained P (entry ∷ entries) kept f last (true, value, next, left, step, on, is) all =
      subst (AllKeys P) (sym is)
      (All-cons (λ e. P e.0) (entry.0, value) left (All-head (λ e. P e.0) entry entries all) (keys-retained P entries left next last on (All-tail (λ e. P e.0) entry entries all)))
  keys-retained P (entry ∷ entries) kept f last (false, value, next, left, step, on, is) all =
      subst (AllKeys P) (sym is) (keys-retained P entries left next last on (All-tail (λ e. P e.0) entry entries all))

  -- and they still ascend
  pub ordered-retained : (order : K → K → Ordering) (entries kept : List (K × V)) (f last : F) → RetainsTo T f entries kept last → IsOrdered order entries → IsOrdered order kept
  ordered-retained order [] kept f last (same, none) ordered = subst (IsOrdered order) (sym none) ordered
  ordered-retained order (entry ∷ entries) kept f last (true, value, next, left, step, on, is) ordered =
      subst (IsOrdered order) (sym is)
      (ordered-cons order (entry.0, value) left (keys-retained (λ k. order entry.0 k ≡ Less) entries left next last on (above-first order entry entries ordered))
      (ordered-retained order entries left next last on (ordered-right order (entry ∷ []) entries ordered)))
  ordered-retained order (entry ∷ entries) kept f last (false, value, next, left, step, on, is) ordered =
      subst (IsOrdered order) (sym is) (ordered-retained order entries left next last on (ordered-right order (entry ∷ []) entries ordered))

-- no more entries than there were
pub pairs-shorter : {F K V : Type 0} (T : F → K → V → Bool → V → F → Type 0) (entries kept : List (K × V)) (f : F) → RetainsPairs T f entries kept → length kept ≤ length entries
pairs-shorter T [] kept f none = omega (arith, ap length none)
pairs-shorter T (entry ∷ entries) kept f (true, value, next, left, step, on, is) = omega (arith, ap length is, pairs-shorter T entries left next on)
pairs-shorter T (entry ∷ entries) kept f (false, value, next, left, step, on, is) = omega (arith, ap length is, pairs-shorter T entries left next on)

use Rattle.std.proofs.Common.{◌≡◌, ◌∙◌, List, [], ◌∷◌, All, cond, refl, ap}
use Rattle.std.specs.Prelude.{None}
use Rattle.std.specs.BTreeMap.{is_at}
use Rattle.std.specs.Cmp.Lexicographic.{slice_cmp}
use Rattle.std.specs.List.Sorted.{IsStrictlySortedBy}
use Rattle.std.specs.Map.{keys_of, lookup, remove_entry}
use Rattle.std.specs.Ordering.{is_eq, nat_cmp}
use Rattle.std.specs.String.{string_bytes, string_cmp}
use Rattle.std.specs.declared.cmp.Ordering.{Ordering}
use Rattle.std.specs.declared.cmp.Ordering.TheVariants.{Less, Equal, Greater}
use Rattle.std.proofs.lemmas.List.Elements.{All-head, All-tail}
use Rattle.std.proofs.lemmas.Map.Keys.{sorted_tail}
use Rattle.std.proofs.lemmas.Map.Lookups.{exact_bytes}
use Rattle.std.proofs.lemmas.Map.Views.{All-after_first}
use Rattle.art_map_tests.specs.Names.{name_order}
use Rattle.art_map_tests.proofs.prices.take_off.Goals as goal

-- keys in order, and a query that compares to the others as a key does that it is equal to
module _ {K X : Type 0} (R : K → K → Ordering) (compare : K → Ordering) (like : (x y : K) → compare x ≡ Equal → compare y ≡ R x y) where
  none_above : (key : K) (es : List (K × X)) → compare key ≡ Equal → All (λ k. R key k ≡ Less) (keys_of es) → lookup (is_at compare) es ≡ None
  none_above key [] equal above = refl
  none_above key (e ∷ es) equal above =
      rw (ap is_eq (like key e.0 equal ∙ All-head (λ k. R key k ≡ Less) e.0 (keys_of es) above)) (none_above key es equal (All-tail (λ k. R key k ≡ Less) e.0 (keys_of es) above))

  none_left : (es : List (K × X)) → IsStrictlySortedBy R (keys_of es) → lookup (is_at compare) (remove_entry (is_at compare) es) ≡ None
  none_left [] sorted = refl
  none_left (e ∷ es) sorted = by_order (compare e.0) refl (none_left es (sorted_tail R e.0 (keys_of es) sorted))
    where
      by_order : (o : Ordering) → compare e.0 ≡ o → lookup (is_at compare) (remove_entry (is_at compare) es) ≡ None → lookup (is_at compare) (cond (is_eq o) es (e ∷ remove_entry (is_at compare) es)) ≡ None
      by_order Less is rest = rw is rest
      by_order Equal is rest = none_above e.0 es is (All-after_first R e.0 (keys_of es) sorted)
      by_order Greater is rest = rw is rest

pub returns-clause-gone : goal.returns-clause-gone
returns-clause-gone c =
    rw c.remove.ensures.entries (none_left string_cmp (name_order c.args.name) (λ x y equal. ap (λ bytes. slice_cmp nat_cmp bytes (string_bytes y)) (exact_bytes c.args.name.now (string_bytes x) equal)) c.args.prices.now c.len-count.ensures.ordered)

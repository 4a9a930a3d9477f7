-- No encoding of a key is a proper prefix of another.
use Rattle.std.proofs.Common.{◌≡◌, ◌∙◌, ℕ, List, ◌++◌, inl, inr, sym, ap, subst}
use Rattle.std.proofs.lemmas.List.{append-nil}
use Rattle.std.proofs.lemmas.List.Elements.{All-contains}
use Rattle.std.specs.declared.cmp.Ordering.{Ordering}
use Rattle.art_bytes.proofs.Members.{inside_image}
use Rattle.art_keys.specs.Encoding.{SortedBy}
use Rattle.art_keys.specs.EncodingLaws.{prefix_ties}
use Rattle.art_arena.specs.Arena.{NodeArena}
use Rattle.art_tree.proofs.EntryLaws.{are-entries}
use Rattle.art_steps.specs.Dictionary.{IsEntry, IsProperPrefixOf}
use Rattle.art_tree.specs.Entries.{entries_of}
use Rattle.art_steps.specs.Insertion.{ClashesIn}

no-proper-prefix : (order : Ordering) (a b : List ℕ) → SortedBy order a b → IsProperPrefixOf a b → ⊥
no-proper-prefix order a b sorted ((rest, is), differ) =
    let none = (prefix_ties order a rest (subst (SortedBy order a) is sorted)).1 in
    differ (sym (is ∙ ap (λ r. a ++ r) none ∙ append-nil a))

module _ {K A V : Type 0} {P : ℕ} (encoded : K → List ℕ) (is_key : K → Type 0) (order : K → K → Ordering) (sorted : (x y : K) → is_key x → is_key y → SortedBy (order x y) (encoded x) (encoded y)) (text : A → List ℕ) (arena : NodeArena A V P) where
  pub never-clashes : (key : K) → is_key key → ((entry : A × V) → IsEntry text arena entry → (other : K) × is_key other × (text entry.0 ≡ encoded other)) → ClashesIn text arena (encoded key) → ⊥
  never-clashes key is keys (x, has, clash) =
      let list = are-entries text arena in
      let from = inside_image (λ entry. text entry.0) (entries_of text arena) x (list.all x has) in
      let own = All-contains (IsEntry text arena) (entries_of text arena) from.0 list.each from.1 in
      let (other, other_is, same) = keys from.0 own in
      let x_is : encoded other ≡ x = sym same ∙ from.2 in
      elim clash [
        | inl before ↦ no-proper-prefix (order other key) (encoded other) (encoded key) (sorted other key other_is is) (subst (λ y. IsProperPrefixOf y (encoded key)) (sym x_is) before)
        | inr after ↦ no-proper-prefix (order key other) (encoded key) (encoded other) (sorted key other is other_is) (subst (IsProperPrefixOf (encoded key)) (sym x_is) after)
      ]

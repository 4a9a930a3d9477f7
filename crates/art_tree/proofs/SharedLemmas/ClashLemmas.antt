-- Keys of which none is a prefix of another.
use Rattle.art_tree.proofs.Names.{◌≡◌, ◌∙◌, ◌⊎◌, ℕ, List, map, All, Some, sym, subst, inl, inr, All-contains, IsPrefixOf, NodeArena, Clashes, HasKeys, IsProperPrefixOf, entry_at, ClashesIn, by_option, inside_image}
use Rattle.art_steps.proofs.SharedLemmas.DictionaryLemmas.{text-found}

module _ {K : Type 0} (text : K → List ℕ) (is_key : K → Type 0) (no_prefixes : (a b : K) → is_key a → is_key b → IsPrefixOf (text a) (text b) → text a ≡ text b) (key : K) (is : is_key key) where
  -- a key with this text is none that it clashes with
  unlike : (other : List ℕ) → IsProperPrefixOf other (text key) ⊎ IsProperPrefixOf (text key) other → (from : K) → is_key from → text from ≡ other → ⊥
  unlike other clash from from_key same = elim clash [
    | inl front ↦ front.1 (sym same ∙ no_prefixes from key from_key is (rw same front.0))
    | inr front ↦ front.1 (no_prefixes key from is from_key (rw same front.0) ∙ same)
  ]

  pub never-clash : (keys : List K) → All is_key keys → Clashes (map text keys) (text key) → ⊥
  never-clash keys all (other, inside, clash) =
      let from = inside_image text keys other inside in
      unlike other clash from.0 (All-contains is_key keys from.0 all from.1) from.2

  pub never-clash-in : {V : Type 0} {P : ℕ} (arena : NodeArena K V P) → HasKeys text is_key arena → ClashesIn text arena (text key) → ⊥
  never-clash-in {V} arena keys (other, has, clash) =
      by_option (entry_at text arena other) (⊥) (λ none. has none) (λ entry found.
      let same = text-found text arena other entry found in
      unlike other clash entry.0 (keys entry (subst (λ x. entry_at text arena x ≡ Some entry) (sym same) found)) same)

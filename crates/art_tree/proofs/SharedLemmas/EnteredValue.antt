-- A value that is written into a leaf that was found or added.
use Rattle.art_tree.proofs.Names.{◌≡◌, ◌∙◌, ℕ, List, Some, inl, inr, sym, ap, subst, ◌≢◌, UnwrapsOrElse, option_map, option_map_or, leaf_key, leaf_value, LeafNode, OpaqueNodePtr, NodeArena, HeldLeaf, held, Nothing, entry_at, SameOtherEntries, HoldsEntry, FindsEntry, IsEntered}
use Rattle.art_steps.specs.Leaves.{KeepsOtherLeaves}
use Rattle.art_steps.proofs.SharedLemmas.DictionaryLemmas.{text-found}
use Rattle.art_steps.proofs.InsertLemmas.NodeLemmas.{one-leaf, some-leaf}

module _ {K V : Type 0} {P : ℕ} (text : K → List ℕ) (old mid : NodeArena K V P) (key : K) (made : V → Type 0) (pointer : OpaqueNodePtr K V P) (finds : FindsEntry text old mid key made pointer) where
  -- the leaf is held
  pub entry-held : held mid pointer ≢ Nothing
  entry-held = elim finds [
    | inl (entry, is, same, holds) ↦ some-leaf (held mid pointer) holds.leaf holds.is_held
    | inr (v, is_made, none, entered, holds) ↦ some-leaf (held mid pointer) holds.leaf holds.is_held
  ]

  -- its value is the one that was there, or the one that was made
  pub value-found : (value : V) → ((leaf : LeafNode K V P) → held mid pointer ≡ HeldLeaf leaf → value ≡ leaf_value leaf) → UnwrapsOrElse (option_map (λ (entry : K × V). entry.1) (entry_at text old (text key))) made value
  value-found value is = elim finds [
    | inl (entry, there, same, holds) ↦ subst (λ o. UnwrapsOrElse (option_map (λ (e : K × V). e.1) o) made value) (sym there) (is holds.leaf holds.is_held ∙ holds.value)
    | inr (v, is_made, none, entered, holds) ↦ subst (λ o. UnwrapsOrElse (option_map (λ (e : K × V). e.1) o) made value) (sym none) (subst made (sym (is holds.leaf holds.is_held ∙ holds.value)) is_made)
  ]

  -- the leaf has the text of the key
  pub text-held : (was : LeafNode K V P) → held mid pointer ≡ HeldLeaf was → text (leaf_key was) ≡ text key
  text-held was there = elim finds [
    | inl (entry, is, same, holds) ↦ ap text (ap leaf_key (one-leaf (held mid pointer) was holds.leaf there holds.is_held) ∙ holds.key) ∙ text-found text old (text key) entry is
    | inr (v, is_made, none, entered, holds) ↦ ap text (ap leaf_key (one-leaf (held mid pointer) was holds.leaf there holds.is_held) ∙ holds.key)
  ]

  module _ (new : NodeArena K V P) (w : V) (was : LeafNode K V P) (there : held mid pointer ≡ HeldLeaf was) (writes : IsEntered text mid new (leaf_key was) w) where
    entered-as : (k : K) (v : V) → HoldsEntry mid pointer k v → IsEntered text mid new k w
    entered-as k v holds = subst (λ k. IsEntered text mid new k w) (ap leaf_key (one-leaf (held mid pointer) was holds.leaf there holds.is_held) ∙ holds.key) writes

    -- the entry of the key has the value that is written, and nothing else has changed
    pub entry-written : (entry_at text new (text key) ≡ Some (option_map_or (λ (entry : K × V). entry.0) (entry_at text old (text key)) key, w)) × SameOtherEntries text old new (text key) × KeepsOtherLeaves text old new (text key)
    entry-written = elim finds [
      | inl (entry, is, same, holds) ↦
          let now = entered-as entry.0 entry.1 holds in
          let x = text-found text old (text key) entry is in (
            ap (entry_at text new) (sym x) ∙ now.entry ∙ ap (λ o. Some (option_map_or (λ (e : K × V). e.0) o key, w)) (sym is),
            λ other differ. now.others other (λ e. differ (e ∙ x)) ∙ ap (λ arena. entry_at text arena other) same,
            λ p l l_is differ. now.leaves p l (ap (λ arena. held arena p) same ∙ l_is) (λ e. differ (e ∙ x)),
          )
      | inr (v, is_made, none, entered, holds) ↦
          let now = entered-as key v holds in (
            now.entry ∙ ap (λ o. Some (option_map_or (λ (e : K × V). e.0) o key, w)) (sym none),
            λ other differ. now.others other differ ∙ entered.others other differ,
            λ p l l_is differ.
                let (l1, is1, key1, value1) = entered.leaves p l l_is differ in
                let (l2, is2, key2, value2) = now.leaves p l1 is1 (λ e. differ (ap text (sym key1) ∙ e)) in
                (l2, is2, key2 ∙ key1, value2 ∙ value1),
          )
    ]

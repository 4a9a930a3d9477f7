-- The texts of a loaded tree are those of its entries.
use Rattle.art_tree.proofs.Names.{◌≡◌, ◌∙◌, ℕ, List, [], ◌∷◌, map, Contains, refl, sym, ap, arith, Contains-append_right, leaf_key, OpaqueNodePtr, LeafNode, NodeArena, HeldLeaf, held, Tree, leaves, texts, HoldEntries, IsLoaded, texts_of}
use Rattle.art_steps.proofs.SharedLemmas.DictionaryLemmas.{leaf-held-in}

module _ {K V : Type 0} {P : ℕ} (text : K → List ℕ) (arena : NodeArena K V P) where
  -- leaves that hold entries have their texts
  texts-of-held : (of : List (OpaqueNodePtr K V P × List ℕ)) → ((q : OpaqueNodePtr K V P) (x : List ℕ) → Contains of (q, x) → (leaf : LeafNode K V P) × (held arena q ≡ HeldLeaf leaf) × (text (leaf_key leaf) ≡ x))
      → (entries : List (K × V)) → HoldEntries arena (map (λ leaf. leaf.0) of) entries → map (λ leaf. leaf.1) of ≡ texts_of text entries
  texts-of-held [] are [] hold = refl
  texts-of-held [] are (entry ∷ entries) hold = absurd hold
  texts-of-held (first ∷ of) are [] hold = absurd hold
  texts-of-held (first ∷ of) are (entry ∷ entries) hold =
      let own = are first.0 first.1 (0, omega arith, refl) in
      let one : HeldLeaf own.0 ≡ HeldLeaf hold.0.0 = sym own.1 ∙ hold.0.1 in
      let same : own.0 ≡ hold.0.0 = cc in
      let read = sym own.2 ∙ ap (λ (leaf : LeafNode K V P). text (leaf_key leaf)) same ∙ ap text hold.0.2 in
      ap (λ x. x ∷ map (λ leaf. leaf.1) of) read
      ∙ ap (λ rest. text entry.0 ∷ rest) (texts-of-held of (λ q x inside. are q x (Contains-append_right (first ∷ []) of (q, x) inside)) entries hold.1)

  pub loaded-texts : (old : NodeArena K V P) (entries : List (K × V)) (root : OpaqueNodePtr K V P) (tree : Tree (OpaqueNodePtr K V P)) → IsLoaded text old arena entries root tree → texts tree ≡ texts_of text entries
  loaded-texts old entries root tree l = texts-of-held (leaves tree) (leaf-held-in text arena tree l.is_tree.stands) entries l.hold

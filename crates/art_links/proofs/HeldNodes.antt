-- What an arena holds at a pointer, and what stays there.
use Rattle.art_links.proofs.Names.{◌≡◌, ◌≢◌, ◌⊎◌, ◌∙◌, ℕ, List, [], Option, Some, None, inl, inr, refl, sym, ap, subst, option_map, option_map_or, cases_eq, leaf_key, node_kind, opaque_key, opaque_pointer, OpaqueNodePtr, LeafNode, same_or_differ, NodeArena, Held, HeldInner, HeldLeaf, Nothing, held, held_leaf, Changes, HoldsLeaf, leaf_at, text_at, leaf_text, LeafKind}

module _ {K V : Type 0} {P : ℕ} where
  -- two pointers are one or differ
  pub cases_pointer : (a b : OpaqueNodePtr K V P) → (a ≡ b) ⊎ (a ≢ b)
  cases_pointer a b = elim (same_or_differ (node_kind a) (node_kind b)) [
    | inr differ ↦ inr (λ same. differ (ap node_kind same))
    | inl kind ↦ elim (cases_eq (opaque_key a) (opaque_key b)) [
      | inr differ ↦ inr (λ same. differ (ap opaque_key same))
      | inl key ↦ inl (λ i. record { node_type = kind i; key = key i; leaf = record {} })
    ]
  ]

  pub cases_held : (h : Held (OpaqueNodePtr K V P) (LeafNode K V P)) → (h ≡ Nothing) ⊎ (h ≢ Nothing)
  cases_held Nothing = inl refl
  cases_held (HeldInner node) = inr (λ e. cc)
  cases_held (HeldLeaf leaf) = inr (λ e. cc)

  pub leaf-of : (o : Option (LeafNode K V P)) (leaf : LeafNode K V P) → held_leaf {H = OpaqueNodePtr K V P} o ≡ HeldLeaf leaf → o ≡ Some leaf
  leaf-of None leaf e = absurd (cc)
  leaf-of (Some other) leaf e = cc

  pub leaf-held : (o : Option (LeafNode K V P)) → held_leaf {H = OpaqueNodePtr K V P} o ≢ Nothing → (leaf : LeafNode K V P) × (o ≡ Some leaf)
  leaf-held None h = absurd (h refl)
  leaf-held (Some leaf) h = (leaf, refl)

  pub text-held : (text : K → List ℕ) (arena : NodeArena K V P) (key : ℕ) (leaf : LeafNode K V P) → held arena (opaque_pointer LeafKind key) ≡ HeldLeaf leaf → text_at text arena key ≡ text (leaf_key leaf)
  text-held text arena key leaf e = ap (λ o. option_map_or (λ (l : LeafNode K V P). text (leaf_key l)) o []) (leaf-of (leaf_at arena key) leaf e)

  -- the text of a leaf is that of its key
  pub text-of-key : (text : K → List ℕ) (leaf : Option (LeafNode K V P)) (key : K) → option_map leaf_key leaf ≡ Some key → option_map_or (λ (l : LeafNode K V P). text (leaf_key l)) leaf [] ≡ text key
  text-of-key text None key e = absurd (cc)
  text-of-key text (Some leaf) key e = let same : leaf_key leaf ≡ key = cc in ap text same

  -- what stays where a free place is taken
  pub kept-at : (now new : NodeArena K V P) (at : OpaqueNodePtr K V P) (there : Held (OpaqueNodePtr K V P) (LeafNode K V P)) → held now at ≡ Nothing → Changes now new at there → (pointer : OpaqueNodePtr K V P) → held now pointer ≢ Nothing → held new pointer ≡ held now pointer
  kept-at now new at there free changes pointer was = changes.others pointer (λ same. was (ap (held now) same ∙ free))

module _ {K V : Type 0} {P : ℕ} (text : K → List ℕ) (old : NodeArena K V P) where
  -- the leaf that is held under a key
  pub leaf-there : (key : ℕ) → HoldsLeaf old key → (leaf : LeafNode K V P) × (held old (opaque_pointer LeafKind key) ≡ HeldLeaf leaf) × (leaf_text text leaf ≡ text_at text old key)
  leaf-there key is_held =
      let found = leaf-held (leaf_at old key) is_held in
      (found.0, ap held_leaf found.1, ap (λ o. option_map_or (λ (l : LeafNode K V P). text (leaf_key l)) o []) (sym found.1))

  -- and its text stays
  pub text-kept : (now : NodeArena K V P) (key : ℕ) → HoldsLeaf old key → ((pointer : OpaqueNodePtr K V P) → held old pointer ≢ Nothing → held now pointer ≡ held old pointer) → HoldsLeaf now key × (text_at text now key ≡ text_at text old key)
  text-kept now key is_held kept =
      let found = leaf-there key is_held in
      let same = kept (opaque_pointer LeafKind key) is_held in
      (subst (λ h. h ≢ Nothing) (sym same) is_held, text-held text now key found.0 (same ∙ found.1) ∙ found.2)

-- A part of a tree, by what is held at its root.
use Rattle.art_search.proofs.Names.{◌≡◌, ◌≢◌, ◌∙◌, ℕ, List, sym, ap, subst, OpaqueNodePtr, LeafNode, InnerNode, NodeArena, HeldInner, HeldLeaf, Nothing, held, StandsIn, AllStandIn, NodeStands, leaf_text, Tree, Leaf, Inner, Branches, root_of}

-- an inner node, with what is below it
pub record IsInnerPart {K V : Type 0} {P : ℕ} (text : K → List ℕ) (arena : NodeArena K V P) (at : OpaqueNodePtr K V P) (node : InnerNode (OpaqueNodePtr K V P)) (part : Tree (OpaqueNodePtr K V P)) : Type 0 where
  pub prefix : List ℕ
  pub branches : Branches (OpaqueNodePtr K V P)
  pub is : part ≡ Inner at prefix branches
  pub shows : NodeStands P node prefix branches
  pub stand : AllStandIn text arena branches

module _ {K V : Type 0} {P : ℕ} (text : K → List ℕ) (arena : NodeArena K V P) (at : OpaqueNodePtr K V P) where
  pub inner-part : (node : InnerNode (OpaqueNodePtr K V P)) (part : Tree (OpaqueNodePtr K V P)) → root_of part ≡ at → StandsIn text arena part → held arena at ≡ HeldInner node → IsInnerPart text arena at node part
  inner-part node (Leaf pointer x) root (leaf, leaf_holds, has) holds = let one : HeldLeaf leaf ≡ HeldInner node = sym leaf_holds ∙ ap (held arena) root ∙ holds in absurd (cc)
  inner-part node (Inner pointer prefix branches) root (stored, stored_holds, shows, stand) holds =
      let one : HeldInner stored ≡ HeldInner node = sym stored_holds ∙ ap (held arena) root ∙ holds in
      let node_is : stored ≡ node = cc in
      record { prefix = prefix; branches = branches; is = ap (λ p. Inner p prefix branches) root; shows = subst (λ n. NodeStands P n prefix branches) node_is shows; stand = stand }

  -- a leaf, with its text
  pub leaf-part : (leaf : LeafNode K V P) (part : Tree (OpaqueNodePtr K V P)) → root_of part ≡ at → StandsIn text arena part → held arena at ≡ HeldLeaf leaf → part ≡ Leaf at (leaf_text text leaf)
  leaf-part leaf (Inner pointer prefix branches) root (node, node_holds, shows, stand) holds = let one : HeldInner node ≡ HeldLeaf leaf = sym node_holds ∙ ap (held arena) root ∙ holds in absurd (cc)
  leaf-part leaf (Leaf pointer x) root (stored, stored_holds, has) holds =
      let one : HeldLeaf stored ≡ HeldLeaf leaf = sym stored_holds ∙ ap (held arena) root ∙ holds in
      let stored_is : stored ≡ leaf = cc in
      ap (λ p. Leaf p x) root ∙ ap (Leaf at) (sym has ∙ ap (leaf_text text) stored_is)

  -- something is held there
  pub part-held : (part : Tree (OpaqueNodePtr K V P)) → root_of part ≡ at → StandsIn text arena part → held arena at ≢ Nothing
  part-held (Leaf pointer x) root (leaf, holds, has) none = let wrong : HeldLeaf leaf ≡ Nothing = sym holds ∙ ap (held arena) root ∙ none in absurd (cc)
  part-held (Inner pointer prefix branches) root (node, holds, shows, stand) none = let wrong : HeldInner node ≡ Nothing = sym holds ∙ ap (held arena) root ∙ none in absurd (cc)

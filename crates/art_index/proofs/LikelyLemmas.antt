-- The way down where only stored bytes are compared: each node that it meets is one of the tree.
use Rattle.std.proofs.Common.{◌≡◌, ◌∙◌, ℕ, ◌+◌, ◌<◌, ◌^◌, List, [], ◌∷◌, ◌++◌, length, length-append, map, Contains, Some, refl, sym, ap, subst, inl, inr, arith}
use Rattle.std.proofs.lemmas.List.Elements.{Contains-append_right}
use Rattle.std.proofs.lemmas.Bool.Decides.{eqb_tells}
use Rattle.std.proofs.lemmas.Option.{same_Some}
use Rattle.std.specs.declared.ops.Bound.TheVariants.{Excluded, Unbounded}
use Rattle.art_bytes.proofs.Members.{first_or_later, first_there, image_inside, later_there, part_inside}
use Rattle.art_nodes.specs.ChildMap.{ChildMap, child_at, pairs_within}
use Rattle.art_nodes.specs.Inner as nodes
use Rattle.art_nodes.specs.declared.pointers.OpaqueNodePtr.{OpaqueNodePtr}
use Rattle.art_arena.proofs.Heights.{height-fits}
use Rattle.art_arena.specs.Arena.{NodeArena, HeldInner, HeldLeaf, Nothing, held}
use Rattle.art_arena.specs.Standing.{AllStandIn, StandsIn, TreeAt}
use Rattle.art_index.specs.Descent.{IsDeep, StaysBelow, StaysIn}
use Rattle.art_index.specs.declared.search.Step.{Step}
use Rattle.art_index.specs.declared.search.Step.TheVariants.{Beside, Down}
use Rattle.art_arena.specs.Trees.{Tree, Leaf, Inner, Branches, NoBranch, Branch, branch_roots, root_of, AreSound, IsSound}

-- a child that is found is one of the children
pub found-inside : {H : Type 0} (children : ChildMap H) (byte : ℕ) (child : H) → child_at children byte ≡ Some child → Contains (map (λ pair. pair.1) children) child
found-inside [] byte child is = absurd (cc)
found-inside (x ∷ children) byte child is = elim (eqb_tells x.0 byte) [
  | inl same ↦ (let own : Some x.1 ≡ Some child = rw same.0 at is in first_there x.1 child (map (λ pair. pair.1) children) (same_Some x.1 child own))
  | inr differ ↦ (let rest = rw differ.0 at is in later_there x.1 child (map (λ pair. pair.1) children) (found-inside children byte child rest))
]

-- and so is the last one below a byte
pub below-inside : {H : Type 0} (children : ChildMap H) (byte below : ℕ) (child : H) (others : ChildMap H) → pairs_within children Unbounded (Excluded byte) ≡ others ++ (below, child) ∷ [] → Contains (map (λ pair. pair.1) children) child
below-inside children byte below child others is =
    let last : Contains (pairs_within children Unbounded (Excluded byte)) (below, child) = subst (λ l. Contains l (below, child)) (sym is) (Contains-append_right others ((below, child) ∷ []) (below, child) (first_there (below, child) (below, child) [] refl)) in
    image_inside (λ pair. pair.1) children (below, child) child refl (part_inside _ children (below, child) last).0

module _ {K V : Type 0} {P : ℕ} (text : K → List ℕ) (arena : NodeArena K V P) where
  -- the tree of one of the branches
  child-tree : (path : List ℕ) (branches : Branches (OpaqueNodePtr K V P)) (child : OpaqueNodePtr K V P) → AllStandIn text arena branches → AreSound path branches → Contains (map (λ pair. pair.1) (branch_roots branches)) child → (found : TreeAt text arena child) × (length found.path ≡ length path + 1)
  child-tree path NoBranch child stand sound inside = absurd (omega (arith, inside.1))
  child-tree path (Branch b tree others) child (stands, stand) sound inside = elim (first_or_later (root_of tree) child (map (λ pair. pair.1) (branch_roots others)) inside) [
    | inl same ↦ (record { tree = tree; path = path ++ b ∷ []; at_root = same; stands = stands; sound = sound.0 }, length-append path (b ∷ []))
    | inr later ↦ child-tree path others child stand sound.1 later
  ]

  module _ (at : OpaqueNodePtr K V P) (found : TreeAt text arena at) where
    -- a child of a node has a tree, as many bytes deeper as the prefix has and one
    pub below-node : (node : nodes.Inner (OpaqueNodePtr K V P)) → held arena at ≡ HeldInner node → (child : OpaqueNodePtr K V P) → Contains (map (λ pair. pair.1) node.children) child → (below : TreeAt text arena child) × (length below.path ≡ length found.path + node.prefix_len + 1)
    below-node node is child inside = by_tree found.tree found.at_root found.stands found.sound
      where
        by_tree : (tree : Tree (OpaqueNodePtr K V P)) → root_of tree ≡ at → StandsIn text arena tree → IsSound found.path tree → (below : TreeAt text arena child) × (length below.path ≡ length found.path + node.prefix_len + 1)
        by_tree (Leaf p y) root (leaf, holds, has) sound = let wrong : HeldLeaf leaf ≡ HeldInner node = sym holds ∙ ap (held arena) root ∙ is in absurd (cc)
        by_tree (Inner p prefix branches) root (own, holds, shows, stand) sound =
            let one : HeldInner own ≡ HeldInner node = sym holds ∙ ap (held arena) root ∙ is in
            let same : own ≡ node = cc in
            let roots : node.children ≡ branch_roots branches = ap (λ n. n.children) (sym same) ∙ shows.children in
            let long : node.prefix_len ≡ length prefix = ap (λ n. n.prefix_len) (sym same) ∙ shows.prefix_len in
            let below = child-tree (found.path ++ prefix) branches child stand sound.2 (subst (λ children. Contains (map (λ pair. pair.1) children) child) roots inside) in
            (below.0, omega (arith, below.1, length-append found.path prefix, long))

    -- and the path to it fits
    pub below-fits : (node : nodes.Inner (OpaqueNodePtr K V P)) → held arena at ≡ HeldInner node → length found.path + node.prefix_len + 1 < 2 ^ 64
    below-fits node is = by_tree found.tree found.at_root found.stands found.sound
      where
        by_tree : (tree : Tree (OpaqueNodePtr K V P)) → root_of tree ≡ at → StandsIn text arena tree → IsSound found.path tree → length found.path + node.prefix_len + 1 < 2 ^ 64
        by_tree (Leaf p y) root (leaf, holds, has) sound = let wrong : HeldLeaf leaf ≡ HeldInner node = sym holds ∙ ap (held arena) root ∙ is in absurd (cc)
        by_tree (Inner p prefix NoBranch) root (own, holds, shows, stand) sound = absurd (omega (arith, sound.0))
        by_tree (Inner p prefix (Branch b tree others)) root (own, holds, shows, stand) sound =
            let one : HeldInner own ≡ HeldInner node = sym holds ∙ ap (held arena) root ∙ is in
            let same : own ≡ node = cc in
            let long : node.prefix_len ≡ length prefix = ap (λ n. n.prefix_len) (sym same) ∙ shows.prefix_len in
            omega (arith, height-fits ((found.path ++ prefix) ++ b ∷ []) tree sound.2.0, length-append (found.path ++ prefix) (b ∷ []), length-append found.path prefix, long)

    -- what stands at a pointer is held
    pub tree-held : held arena at ≡ Nothing → ⊥
    tree-held none = by_tree found.tree found.at_root found.stands
      where
        by_tree : (tree : Tree (OpaqueNodePtr K V P)) → root_of tree ≡ at → StandsIn text arena tree → ⊥
        by_tree (Leaf p y) root (leaf, holds, has) = let wrong : HeldLeaf leaf ≡ Nothing = sym holds ∙ ap (held arena) root ∙ none in cc
        by_tree (Inner p prefix branches) root (own, holds, shows, stand) = let wrong : HeldInner own ≡ Nothing = sym holds ∙ ap (held arena) root ∙ none in cc

  -- where a query goes from a node of which this tree stands
  pub stays-below : (at : OpaqueNodePtr K V P) (depth : ℕ) (deep : IsDeep text arena at depth) (node : nodes.Inner (OpaqueNodePtr K V P)) → held arena at ≡ HeldInner node → (step : Step K V P) → StaysIn node at (depth + node.prefix_len) step → StaysBelow text arena depth step
  stays-below at depth deep node is (Down child below) (inside, same) =
      let next = below-node at deep.found node is child inside in
      (record { found = next.0; deep = omega (arith, next.1, deep.deep, same) }, omega (arith, same))
  stays-below at depth deep node is (Beside other end) (inl same) = subst (TreeAt text arena) (sym same) deep.found
  stays-below at depth deep node is (Beside other end) (inr inside) = (below-node at deep.found node is other inside).0

  -- a depth is less than a path can be long
  pub deep-fits : (at : OpaqueNodePtr K V P) (depth : ℕ) → IsDeep text arena at depth → depth < 2 ^ 64
  deep-fits at depth deep = omega (arith, height-fits deep.found.path deep.found.tree deep.found.sound, deep.deep)

-- The way down from the root of a tree to one of its leaves.
use Rattle.std.proofs.Common.{◌≡◌, ◌≢◌, ◌∙◌, ℕ, ◌<◌, ◌≤◌, ◌^◌, List, [], ◌∷◌, ◌++◌, length, sym, ap, subst, arith}
use Rattle.art_nodes.specs.Inner as nodes
use Rattle.art_nodes.specs.declared.pointers.OpaqueNodePtr.{OpaqueNodePtr}
use Rattle.art_nodes.specs.declared.leaf_node.LeafNode.{LeafNode}
use Rattle.art_arena.specs.Arena.{NodeArena, Nothing, HeldInner, HeldLeaf, held}
use Rattle.art_arena.specs.Standing.{StandsIn, AllStandIn, StandsUnder, TreeAt, leaf_text}
use Rattle.art_arena.specs.Trees.{Tree, Leaf, Inner, Branches, branch_leaves, branch_roots, leaves, root_of, IsSound, AreSound}
use Rattle.art_arena.proofs.BelowLemmas.{node-under, tree-held}
use Rattle.art_arena.proofs.Heights.{branches_height, height, lower-child, tree_height}

module _ {K V : Type 0} {P : ℕ} (text : K → List ℕ) (arena : NodeArena K V P) (at : OpaqueNodePtr K V P) (found : TreeAt text arena at) where
  -- something is held where a tree stands
  pub held-there : held arena at ≢ Nothing
  held-there = tree-held text arena found.tree at found.at_root found.stands

  -- and an inner node has two children or more
  pub two-children : (node : nodes.Inner (OpaqueNodePtr K V P)) → held arena at ≡ HeldInner node → 2 ≤ length node.children
  two-children node holds = let (under, _, _) = node-under text arena at node holds found in by_tree under.path under.tree under.stands under.sound
    where
      by_tree : (path : List ℕ) (tree : Tree (OpaqueNodePtr K V P)) → StandsUnder P (leaf_text text) (held arena) node tree → IsSound path tree → 2 ≤ length node.children
      by_tree path (Leaf p x) stands sound = absurd stands
      by_tree path (Inner p prefix branches) (shows, stand) sound = omega (arith, sound.0, ap length shows.children)

module _ {K V : Type 0} {P : ℕ} (text : K → List ℕ) (arena : NodeArena K V P) (IsIn : List (OpaqueNodePtr K V P × List ℕ) → OpaqueNodePtr K V P × List ℕ → Type 0) where
  -- the branch of a child. What is so of its leaves is so of those of all branches.
  pub record BranchTo (path : List ℕ) (branches : Branches (OpaqueNodePtr K V P)) (child : OpaqueNodePtr K V P) : Type 0 where
    pub byte : ℕ
    pub tree : Tree (OpaqueNodePtr K V P)
    pub at_root : root_of tree ≡ child
    pub stands : StandsIn text arena tree
    pub sound : IsSound (path ++ byte ∷ []) tree
    pub lower : tree_height tree ≤ branches_height branches
    pub kept : (leaf : OpaqueNodePtr K V P × List ℕ) → IsIn (leaves tree) leaf → IsIn (branch_leaves branches) leaf

  -- a child of a node has such a branch in each tree of the node
  abbrev pub IsBranchOf : nodes.Inner (OpaqueNodePtr K V P) → OpaqueNodePtr K V P → Type 0
  IsBranchOf node child = (path : List ℕ) (branches : Branches (OpaqueNodePtr K V P)) → AllStandIn text arena branches → AreSound path branches → node.children ≡ branch_roots branches → BranchTo path branches child

  module _ (whole : Tree (OpaqueNodePtr K V P)) where
    -- where the way is: at the root of a part of the whole. What is so of the part's leaves is so of
    -- the whole's.
    pub record IsOnWay (at : OpaqueNodePtr K V P) : Type 0 where
      pub below : TreeAt text arena at
      pub kept : (leaf : OpaqueNodePtr K V P × List ℕ) → IsIn (leaves below.tree) leaf → IsIn (leaves whole) leaf

    -- from a node to its child, whose tree is lower
    pub way-to-child : (node : nodes.Inner (OpaqueNodePtr K V P)) (path : List ℕ) (child : OpaqueNodePtr K V P) → StandsUnder P (leaf_text text) (held arena) node whole → IsSound path whole → IsBranchOf node child → (on : IsOnWay child) × (tree_height on.below.tree < tree_height whole)
    way-to-child node path child stands sound choice = by_tree whole stands sound (λ leaf inside. inside) (λ n less. less)
      where
        by_tree : (tree : Tree (OpaqueNodePtr K V P)) → StandsUnder P (leaf_text text) (held arena) node tree → IsSound path tree → ((leaf : OpaqueNodePtr K V P × List ℕ) → IsIn (leaves tree) leaf → IsIn (leaves whole) leaf) → ((n : ℕ) → n < tree_height tree → n < tree_height whole)
            → (on : IsOnWay child) × (tree_height on.below.tree < tree_height whole)
        by_tree (Leaf p x) stands sound kept less = absurd stands
        by_tree (Inner p prefix branches) (shows, stand) sound kept less =
            let branch = choice (path ++ prefix) branches stand sound.2 shows.children in (
              record {
                below = record { tree = branch.tree; path = (path ++ prefix) ++ branch.byte ∷ []; at_root = branch.at_root; stands = branch.stands; sound = branch.sound };
                kept = λ leaf inside. kept leaf (branch.kept leaf inside);
              },
              less (tree_height branch.tree) (omega (arith, branch.lower)),
            )

  module _ (whole : Tree (OpaqueNodePtr K V P)) (at : OpaqueNodePtr K V P) (on : IsOnWay whole at) where
    -- a step of the way, which goes lower
    pub step-down : (node : nodes.Inner (OpaqueNodePtr K V P)) (child : OpaqueNodePtr K V P) → held arena at ≡ HeldInner node → IsBranchOf node child → IsOnWay whole child × (height arena (2 ^ 64) child < height arena (2 ^ 64) at)
    step-down node child holds choice =
        let here = on.below in
        let (under, same, _) = node-under text arena at node holds here in
        let (next, less) = way-to-child under.tree node under.path child under.stands under.sound choice in
        let there = next.below in (
          record { below = there; kept = λ leaf inside. on.kept leaf (subst (λ tree. IsIn (leaves tree) leaf) same (next.kept leaf inside)) },
          lower-child text arena here.path there.path here.tree there.tree at child here.at_root there.at_root here.stands there.stands here.sound there.sound (subst (λ tree. tree_height there.tree < tree_height tree) same less),
        )

    -- the leaf at which the way ends, with its text, is one of the whole in this sense
    pub way-end : (leaf : LeafNode K V P) → held arena at ≡ HeldLeaf leaf → ((x : List ℕ) → IsIn ((at, x) ∷ []) (at, x)) → (x : List ℕ) × IsIn (leaves whole) (at, x)
    way-end leaf holds alone = by_tree on.below.tree on.below.at_root on.below.stands on.kept
      where
        by_tree : (tree : Tree (OpaqueNodePtr K V P)) → root_of tree ≡ at → StandsIn text arena tree → ((l : OpaqueNodePtr K V P × List ℕ) → IsIn (leaves tree) l → IsIn (leaves whole) l) → (x : List ℕ) × IsIn (leaves whole) (at, x)
        by_tree (Leaf p x) top stands kept = (x, kept (at, x) (subst (λ q. IsIn ((q, x) ∷ []) (at, x)) (sym top) (alone x)))
        by_tree (Inner p prefix branches) top (own, own_holds, shows, stand) kept = let one : HeldInner own ≡ HeldLeaf leaf = sym own_holds ∙ ap (held arena) top ∙ holds in absurd (cc)

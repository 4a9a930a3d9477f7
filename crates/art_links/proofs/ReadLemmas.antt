-- The leaf from which the whole prefix of a node is read.
use Rattle.std.proofs.Common.{◌≡◌, ◌∙◌, ℕ, List, map, Contains, sym, subst}
use Rattle.art_header.specs.declared.node_type.NodeType.TheVariants.{Leaf}
use Rattle.art_nodes.specs.Inner as nodes
use Rattle.art_nodes.specs.Pointers.{slab_key, opaque_pointer}
use Rattle.art_nodes.specs.declared.pointers.OpaqueNodePtr.{OpaqueNodePtr}
use Rattle.art_nodes.specs.declared.leaf_node.LeafNode.{LeafNode}
use Rattle.art_arena.specs.Arena.{LeafPtr, NodeArena, held, HeldLeaf}
use Rattle.art_arena.specs.Standing.{TreeAt, TreeUnder, leaf_text, IsLeafOf}
use Rattle.art_arena.specs.Trees.{leaves}
use Rattle.art_arena.proofs.AnyLeafLemmas.{any-branch}
use Rattle.art_arena.proofs.DescentLemmas.{IsOnWay, way-to-child}
use Rattle.art_arena.proofs.WayLemmas.{HasNodePrefix, leaf-node-prefix, leaf-text}

module _ {K V : Type 0} {P : ℕ} (text : K → List ℕ) (arena : NodeArena K V P) (node : nodes.Inner (OpaqueNodePtr K V P)) (depth : ℕ) (child : OpaqueNodePtr K V P) (inside : Contains (map (λ pair. pair.1) node.children) child) where
  way_to_child : (below : TreeUnder text arena node depth) → IsOnWay text arena Contains below.tree child
  way_to_child below = (way-to-child text arena Contains below.tree node below.path child below.stands below.sound (any-branch text arena node child inside)).0

  -- the tree of the child
  pub child_tree : TreeUnder text arena node depth → TreeAt text arena child
  child_tree below = (way_to_child below).below

  module _ (pointer : LeafPtr K V P) (leaf : (found : TreeAt text arena child) → IsLeafOf found.tree pointer) where
    leaf_of_part : (below : TreeUnder text arena node depth) → IsLeafOf (way_to_child below).below.tree pointer
    unfolding child_tree
    leaf_of_part below = leaf (child_tree below)

    -- a leaf of it is one of the node's tree, with the same text
    leaf_of_whole : (below : TreeUnder text arena node depth) → Contains (leaves below.tree) (opaque_pointer Leaf (slab_key pointer), (leaf_of_part below).0)
    leaf_of_whole below = (way_to_child below).kept (opaque_pointer Leaf (slab_key pointer), (leaf_of_part below).0) (leaf_of_part below).1

    pub leaf_below : (below : TreeUnder text arena node depth) → IsLeafOf below.tree pointer
    leaf_below below = ((leaf_of_part below).0, leaf_of_whole below)

    -- its text has the prefix
    pub prefix_in_leaf : (below : TreeUnder text arena node depth) (value : LeafNode K V P) (n : ℕ) (bytes : List ℕ) → held arena (opaque_pointer Leaf (slab_key pointer)) ≡ HeldLeaf value → bytes ≡ leaf_text text value → n ≡ node.prefix_len → HasNodePrefix P (leaf_text text) (held arena) depth n bytes below.tree
    prefix_in_leaf below value n bytes holds read long =
        let on = way_to_child below in
        let at = opaque_pointer Leaf (slab_key pointer) in
        let there = leaf_of_part below in
        let same = leaf-text P (leaf_text text) (held arena) on.below.tree at there.0 value on.below.stands there.1 holds in
        subst (λ z. HasNodePrefix P (leaf_text text) (held arena) depth n z below.tree) (sym (read ∙ same)) (leaf-node-prefix P (leaf_text text) (held arena) node below.tree below.path depth n at there.0 below.stands below.sound below.deep long (leaf_of_whole below))

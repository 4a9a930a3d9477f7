-- The nodes that a reader returns.
use Rattle.std.specs.Prelude.{ℕ}
use Rattle.art_header.specs.declared.node_type.NodeType.{NodeType}
use Rattle.art_header.specs.declared.node_type.NodeType.TheVariants as kinds
use Rattle.art_nodes.specs.Inner.{Inner}
use Rattle.art_nodes.specs.declared.pointers.OpaqueNodePtr.{OpaqueNodePtr}
use Rattle.art_nodes.specs.declared.leaf_node.LeafNode as leaf
use Rattle.art_arena.specs.Arena.{Held, HeldInner, HeldLeaf}
use Rattle.art_arena.specs.declared.reader.AnyNodeRef.{AnyNodeRef}
use Rattle.art_arena.specs.declared.reader.AnyNodeRef.TheVariants.{Node4, Node16, Node48, Node256, LeafNode}

module _ {K V : Type 0} {P : ℕ} where
  -- the node behind a reference
  abbrev pub shown : AnyNodeRef (Inner (OpaqueNodePtr K V P)) (Inner (OpaqueNodePtr K V P)) (Inner (OpaqueNodePtr K V P))
      (Inner (OpaqueNodePtr K V P)) (leaf.LeafNode K V P) → Held (OpaqueNodePtr K V P) (leaf.LeafNode K V P)
  shown (Node4 node) = HeldInner node.now
  shown (Node16 node) = HeldInner node.now
  shown (Node48 node) = HeldInner node.now
  shown (Node256 node) = HeldInner node.now
  shown (LeafNode leaf) = HeldLeaf leaf.now

  -- the kind of the node behind a reference
  abbrev pub shown_kind : AnyNodeRef (Inner (OpaqueNodePtr K V P)) (Inner (OpaqueNodePtr K V P)) (Inner (OpaqueNodePtr K V P))
      (Inner (OpaqueNodePtr K V P)) (leaf.LeafNode K V P) → NodeType
  shown_kind (Node4 node) = kinds.Node4
  shown_kind (Node16 node) = kinds.Node16
  shown_kind (Node48 node) = kinds.Node48
  shown_kind (Node256 node) = kinds.Node256
  shown_kind (LeafNode leaf) = kinds.Leaf

-- Pointers with a variant for each kind, and their kinds and slab keys.
use Rattle.std.specs.Prelude.{ℕ}
use Rattle.art_header.specs.declared.node_type.NodeType.{NodeType}
use Rattle.art_header.specs.declared.node_type.NodeType.TheVariants as kinds
use Rattle.art_nodes.specs.Pointers.{slab_key, node_kind, opaque_key, opaque_pointer, pointer_to}
use Rattle.art_nodes.specs.declared.pointers.OpaqueNodePtr.{OpaqueNodePtr}
use Rattle.art_nodes.specs.declared.pointers.concrete.ConcreteNodePtr.{ConcreteNodePtr}
use Rattle.art_nodes.specs.declared.pointers.concrete.ConcreteNodePtr.TheVariants.{Node4, Node16, Node48, Node256, LeafNode}
use Rattle.art_nodes.specs.declared.pointers.concrete.ConcreteInnerNodePtr.{ConcreteInnerNodePtr}
use Rattle.art_nodes.specs.declared.pointers.concrete.ConcreteInnerNodePtr.TheVariants as inner

module _ {K V : Type 0} {P : ℕ} where
  -- the kind and slab key of a pointer
  abbrev pub opaque_of : ConcreteNodePtr K V P → OpaqueNodePtr K V P
  opaque_of (Node4 pointer) = opaque_pointer kinds.Node4 (slab_key pointer)
  opaque_of (Node16 pointer) = opaque_pointer kinds.Node16 (slab_key pointer)
  opaque_of (Node48 pointer) = opaque_pointer kinds.Node48 (slab_key pointer)
  opaque_of (Node256 pointer) = opaque_pointer kinds.Node256 (slab_key pointer)
  opaque_of (LeafNode pointer) = opaque_pointer kinds.Leaf (slab_key pointer)

  -- the pointer with a kind and a slab key
  abbrev pub concrete_pointer : NodeType → ℕ → ConcreteNodePtr K V P
  concrete_pointer kinds.Node4 key = Node4 (pointer_to key)
  concrete_pointer kinds.Node16 key = Node16 (pointer_to key)
  concrete_pointer kinds.Node48 key = Node48 (pointer_to key)
  concrete_pointer kinds.Node256 key = Node256 (pointer_to key)
  concrete_pointer kinds.Leaf key = LeafNode (pointer_to key)

  -- the pointer with a variant for each kind that points to the same node
  abbrev pub concrete_of : OpaqueNodePtr K V P → ConcreteNodePtr K V P
  concrete_of pointer = concrete_pointer (node_kind pointer) (opaque_key pointer)

  -- a pointer to an inner node, as one to any node
  abbrev pub any_of_inner : ConcreteInnerNodePtr K V P → ConcreteNodePtr K V P
  any_of_inner (inner.Node4 pointer) = Node4 pointer
  any_of_inner (inner.Node16 pointer) = Node16 pointer
  any_of_inner (inner.Node48 pointer) = Node48 pointer
  any_of_inner (inner.Node256 pointer) = Node256 pointer

  -- the kind and slab key of a pointer to an inner node
  abbrev pub opaque_of_inner : ConcreteInnerNodePtr K V P → OpaqueNodePtr K V P
  opaque_of_inner pointer = opaque_of (any_of_inner pointer)

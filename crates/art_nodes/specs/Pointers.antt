-- Node pointers: the kind of the node and its slab key.
use Rattle.std.specs.Prelude.{ℕ}
use Rattle.art_header.specs.declared.node_type.NodeType.{NodeType}
use Rattle.art_nodes.specs.declared.pointers.NodePtr.{NodePtr}
use Rattle.art_nodes.specs.declared.pointers.OpaqueNodePtr.{OpaqueNodePtr}

-- the slab key of a pointer to a node of one type
abbrev pub slab_key : {P : ℕ} {N : Type 0} → NodePtr P N → ℕ
slab_key pointer = pointer.key

-- the kind of the node of a pointer
abbrev pub node_kind : {K V : Type 0} {P : ℕ} → OpaqueNodePtr K V P → NodeType
node_kind pointer = pointer.node_type

-- its slab key
abbrev pub opaque_key : {K V : Type 0} {P : ℕ} → OpaqueNodePtr K V P → ℕ
opaque_key pointer = pointer.key

-- the pointer to a node of one type with a slab key
abbrev pub pointer_to : {P : ℕ} {N : Type 0} → ℕ → NodePtr P N
pointer_to key = record { key = key; node = record {} }

-- the pointer with this kind and slab key
abbrev pub opaque_pointer : {K V : Type 0} {P : ℕ} → NodeType → ℕ → OpaqueNodePtr K V P
opaque_pointer kind key = record { node_type = kind; key = key; leaf = record {} }

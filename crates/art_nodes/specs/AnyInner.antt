-- An inner node of any kind, as contracts see it. No public clause cites these words.
use Rattle.std.specs.Prelude.{◌≡◌, ℕ, length}
use Rattle.art_header.specs.NodeType.{kind_for}
use Rattle.art_header.specs.declared.node_type.NodeType.{NodeType}
use Rattle.art_header.specs.declared.node_type.NodeType.TheVariants as kinds
use Rattle.art_nodes.specs.Inner.{Inner}
use Rattle.art_nodes.specs.declared.pointers.OpaqueNodePtr.{OpaqueNodePtr}
use Rattle.art_nodes.specs.declared.commands.any_inner.AnyInner.{AnyInner}
use Rattle.art_nodes.specs.declared.commands.any_inner.AnyInner.TheVariants.{Node4, Node16, Node48, Node256}

module _ {K V : Type 0} {P : ℕ} where
  -- the inner node, whichever kind it is
  abbrev pub inner_of : AnyInner K V P → Inner (OpaqueNodePtr K V P)
  inner_of (Node4 node) = node
  inner_of (Node16 node) = node
  inner_of (Node48 node) = node
  inner_of (Node256 node) = node

  -- its kind
  abbrev pub kind_of : AnyInner K V P → NodeType
  kind_of (Node4 node) = kinds.Node4
  kind_of (Node16 node) = kinds.Node16
  kind_of (Node48 node) = kinds.Node48
  kind_of (Node256 node) = kinds.Node256

  -- the kind is the smallest that holds the children
  abbrev pub IsSmallestKind : AnyInner K V P → Type 0
  IsSmallestKind any = kind_of any ≡ kind_for (length (inner_of any).children)

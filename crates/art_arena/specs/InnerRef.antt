-- References to inner nodes of any kind.
use Rattle.art_nodes.specs.Inner.{Inner}
use Rattle.art_arena.specs.declared.inner_ref.AnyInnerRef.{AnyInnerRef}
use Rattle.art_arena.specs.declared.inner_ref.AnyInnerRef.TheVariants.{Node4, Node16, Node48, Node256}

-- the inner node behind a reference
abbrev pub inner_shown : {H : Type 0} → AnyInnerRef (Inner H) (Inner H) (Inner H) (Inner H) → Inner H
inner_shown (Node4 node) = node.now
inner_shown (Node16 node) = node.now
inner_shown (Node48 node) = node.now
inner_shown (Node256 node) = node.now

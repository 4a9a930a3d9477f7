use Rattle.std.proofs.Common.{◌≡◌, ◌++◌}
use Rattle.art_nodes.proofs.inner_nodes.traits.inner_node_read.InnerNodeRead.any_child_prefer_leaf.Given as goal

-- the pairs so far and the remaining pairs are the node's
abbrev pub invariant-loop-child : goal.invariant-loop-child
invariant-loop-child g l = record {
  callable : (goal.iterator-loop-child g).can_next l.child-iterator;
  finite : (goal.iterator-loop-child g).is_finite l.child-iterator;
  parted : l.yielded ++ l.child-iterator ≡ (g.Self.InnerNodeRead.inner l.self).children;
}

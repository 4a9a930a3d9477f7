use Rattle.std.proofs.Math.Nat.{zero-add}
use Rattle.art_nodes.proofs.inner_nodes.representations.inner_node_sorted.copy_of.Goals as goal

pub unwrap-requires : goal.unwrap-requires
unwrap-requires g c = c.try_extend_from_slice.ensures.variant.1 (rw (c.new-copy.ensures, zero-add) c.requires)

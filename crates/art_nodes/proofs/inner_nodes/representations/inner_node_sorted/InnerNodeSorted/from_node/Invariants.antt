use Rattle.art_nodes.proofs.ConversionLemmas.{IsCopying}
use Rattle.art_nodes.proofs.inner_nodes.representations.inner_node_sorted.InnerNodeSorted.from_node.Given as goal

abbrev pub invariant-loop-byte : goal.invariant-loop-byte
invariant-loop-byte g l = IsCopying (g.N.InnerNodeRead.inner l.node) l.sorted l.yielded l.byte-iterator

use Rattle.art_nodes.proofs.ConversionLemmas.{IsCopying}
use Rattle.art_nodes.proofs.inner_nodes.representations.inner_node_indirect.InnerNodeIndirect.from_direct.Given as goal

abbrev pub invariant-loop-byte : goal.invariant-loop-byte
invariant-loop-byte g l = IsCopying l.node l.indirect l.yielded l.byte-iterator

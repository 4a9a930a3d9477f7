use Rattle.art_nodes.proofs.ConversionLemmas.{IsCopying}
use Rattle.art_nodes.proofs.inner_nodes.representations.conversions.direct_from_sorted.Given as goal

abbrev pub invariant-loop-byte : goal.invariant-loop-byte
invariant-loop-byte g l = IsCopying l.node l.direct l.yielded l.byte-iterator

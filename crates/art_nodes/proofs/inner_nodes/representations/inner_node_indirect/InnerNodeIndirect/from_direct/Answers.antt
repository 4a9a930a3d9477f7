use Rattle.std.proofs.Common.{arith, rules}
use Rattle.art_nodes.proofs.ConversionLemmas.{copying_next}
use Rattle.art_nodes.proofs.inner_nodes.representations.inner_node_indirect.InnerNodeIndirect.from_direct.Goals as goal

pub add_child-requires : goal.add_child-requires
add_child-requires g c =
    let next = copying_next _ _ _ _ _ _ _ c.pairs-byte-items.ensures.sound.ascending c.loop-byte.invariant c.in-Some.ensures.steps in
    (search rules, (search rules, (next.absent, omega (arith, c.requires, next.room))))

pub loop-byte-preserved : goal.loop-byte-preserved
loop-byte-preserved g c =
    let next = copying_next _ _ _ _ _ _ _ c.pairs-byte-items.ensures.sound.ascending c.loop-byte.invariant c.in-Some.ensures.steps in
    rw (c.add_child.ensures, c.to_opaque.ensures) next.copying

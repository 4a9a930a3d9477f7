use Rattle.std.proofs.Common.{arith, rules}
use Rattle.art_nodes.proofs.ConversionLemmas.{copying_next}
use Rattle.art_nodes.proofs.inner_nodes.representations.inner_node_sorted.InnerNodeSorted.from_node.Goals as goal

pub write_child_unchecked-requires : goal.write_child_unchecked-requires
write_child_unchecked-requires g c =
    let next = copying_next _ _ _ _ _ _ _ c.iter-byte-items.ensures.sound.ascending c.loop-byte.invariant c.in-Some.ensures.steps in
    (search rules, (search rules, (omega (arith, c.requires, next.room), next.above)))

pub loop-byte-preserved : goal.loop-byte-preserved
loop-byte-preserved g c =
    let next = copying_next _ _ _ _ _ _ _ c.iter-byte-items.ensures.sound.ascending c.loop-byte.invariant c.in-Some.ensures.steps in
    rw c.write_child_unchecked.ensures next.copying

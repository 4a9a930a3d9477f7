use Rattle.art_nodes.proofs.ChildMapLaws.{length_ascending}
use Rattle.std.proofs.Common.{rules, arith}
use Rattle.art_nodes.proofs.ConversionLemmas.{copying_next}
use Rattle.art_nodes.proofs.inner_nodes.representations.conversions.direct_from_indirect.Goals as goal

pub loop-byte-preserved : goal.loop-byte-preserved
loop-byte-preserved g c =
    let next = copying_next _ _ _ _ _ _ _ c.pairs-byte-items.ensures.sound.ascending c.loop-byte.invariant c.in-Some.ensures.steps in
    rw (c.write_child.ensures.written, c.to_opaque.ensures) next.copying

pub write_child-requires : goal.write_child-requires
write_child-requires g c =
    let ascending = c.pairs-byte-items.ensures.sound.ascending in
    let next = copying_next _ _ _ _ _ _ _ ascending c.loop-byte.invariant c.in-Some.ensures.steps in
    (search rules, (search rules, λ none. omega (arith, next.room, length_ascending c.args.node.now.children ascending)))

use Rattle.std.proofs.Common.{length, sym, ap, ◌∙◌}
use Rattle.art_mapped.proofs.Parts.{part_taken, length-part}
use Rattle.art_mapped.proofs.sequence.decode_at.Goals as goal

pub from_slice-requires : goal.from_slice-requires
from_slice-requires g c =
    let laws = g.met.E.Element.keeps in
    ap length (part_taken laws c.args.index c.WIDTH.result c.WIDTH-2.result c.args.bytes.now c.WIDTH.ensures c.WIDTH-2.ensures) ∙ length-part laws c.args.index c.args.bytes.now c.requires

pub slice_bounds-from_slice-end : goal.slice_bounds-from_slice-end
slice_bounds-from_slice-end g c = c.WIDTH-2.ensures ∙ sym (from_slice-requires g c)

pub returns-clause-none : goal.returns-clause-none
returns-clause-none g c =
    let here = part_taken g.met.E.Element.keeps c.args.index c.WIDTH.result c.WIDTH-2.result c.args.bytes.now c.WIDTH.ensures c.WIDTH-2.ensures in
    rw (← (c.from_slice.ensures.text ∙ here)) c.decode.ensures.none

pub returns-clause-some : goal.returns-clause-some
returns-clause-some g c =
    let here = part_taken g.met.E.Element.keeps c.args.index c.WIDTH.result c.WIDTH-2.result c.args.bytes.now c.WIDTH.ensures c.WIDTH-2.ensures in
    rw (← (c.from_slice.ensures.text ∙ here)) c.decode.ensures.some

use Rattle.std.proofs.Common.{◌≡◌, ◌/◌, length, arith}
use Rattle.std.proofs.lemmas.List.Elements.{All-push}
use Rattle.art_mapped.proofs.Parts.{no_rest, size_of_parts, one_more_read, all_read}
use Rattle.art_mapped.proofs.sequence.vec_of.Goals as goal

pub loop-index-preserved : goal.loop-index-preserved
loop-index-preserved g c =
    let on = one_more_read g.met.E.Element.keeps c.loop-index.elements.items c.element_at.result c.args.bytes.now c.loop-index.index c.loop-index.invariant.text c.element_at.ensures.text in
    record {
      in_range = rw c.in_ok-push.ensures.items (All-push g.E.DomainTexts.is_in_range c.loop-index.elements.items c.element_at.result c.loop-index.invariant.in_range c.element_at.ensures.in_range);
      text = rw c.in_ok-push.ensures.items on;
    }

pub returns-clause-text : goal.returns-clause-text
returns-clause-text g c =
    let width = g.E.Bytes.FixedBytes.WIDTH in
    let laws = g.met.E.Element.keeps in
    let size = size_of_parts laws c.args.bytes.now (no_rest laws c.args.bytes.now c.requires) in
    let all : c.loop-index.index ≡ length c.args.bytes.now / width = rw (← c.WIDTH.ensures) (omega arith) in
    all_read laws c.loop-index.elements.items c.args.bytes.now c.loop-index.index (rw all (omega (arith, size))) c.loop-index.invariant.text

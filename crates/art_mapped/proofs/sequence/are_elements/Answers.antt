use Rattle.std.proofs.Common.{◌≡◌, ◌<◌, ◌/◌, ◌*◌, true, false, length, refl, ap, sym, ◌∙◌, arith, below_more}
use Rattle.std.proofs.Math.Logic.{∥∥₁_elim}
use Rattle.std.proofs.Props.{props}
use Rattle.art_mapped.proofs.Answered.{if_none, if_some}
use Rattle.art_mapped.proofs.Parts.{no_rest, is_part_of_some, are_joined_from_parts, size_of_parts}
use Rattle.art_mapped.proofs.sequence.are_elements.Goals as goal

pub returns-then-bytes-width-ne0 : goal.returns-then-bytes-width-ne0
returns-then-bytes-width-ne0 g c =
    (λ yes. let clash : false ≡ true = yes in cc, λ are. absurd (c.if-bytes-width-ne0.true (rw c.WIDTH-width.ensures (no_rest g.met.E.Element.keeps c.args.bytes.now are))))

pub returns-then-is_none : goal.returns-then-is_none
returns-then-is_none g c =
    let width = g.E.Bytes.FixedBytes.WIDTH in
    let none = if_none _ c.decode_at.result c.is_none.result c.is_none.ensures c.if-is_none.true c.decode_at.ensures.none in
    let below : c.loop-index.index < length c.args.bytes.now / width = rw (← c.WIDTH-width.ensures) (omega arith) in (
      λ yes. let clash : false ≡ true = yes in cc,
      λ are. absurd (∥∥₁_elim (is_part_of_some g.met.E.Element.keeps c.args.bytes.now c.loop-index.index are below) (hlevel props) (λ of. none of.0 of.1 of.2)),
    )

pub loop-index-preserved : goal.loop-index-preserved
loop-index-preserved g c =
    let found = if_some _ c.decode_at.result c.is_none.result c.is_none.ensures c.if-is_none.false c.decode_at.ensures.some in
    below_more _ _ c.loop-index.invariant ∣ (found.0, found.1.0, found.1.1) ∣₁

pub returns : goal.returns
returns g c =
    let width = g.E.Bytes.FixedBytes.WIDTH in
    let laws = g.met.E.Element.keeps in
    let size = size_of_parts laws c.args.bytes.now (rw c.WIDTH-width.ensures at c.if-bytes-width-ne0.false) in
    let all : c.loop-index.index ≡ length c.args.bytes.now / width = rw (← c.WIDTH-width.ensures) (omega arith) in
    (λ _. are_joined_from_parts laws c.loop-index.index c.args.bytes.now (size ∙ ap (λ n. n * width) (sym all)) c.loop-index.invariant, λ _. refl)

use Rattle.std.proofs.Math.Logic.{∥∥₁_elim}
use Rattle.std.proofs.Props.{props}
use Rattle.art_mapped.proofs.Parts.{is_part_of_some}
use Rattle.art_mapped.proofs.sequence.element_at.Goals as goal

pub unreachable-requires : goal.unreachable-requires
unreachable-requires g c =
    let found = is_part_of_some g.met.E.Element.keeps c.args.bytes.now c.args.index c.requires.elements c.requires.whole in
    ∥∥₁_elim found (hlevel props) (λ of. c.in-None.ensures.none of.0 of.1 of.2)

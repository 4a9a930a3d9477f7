use Rattle.std.proofs.Math.Logic.{∥∥₁_elim}
use Rattle.std.proofs.Props.{props}
use Rattle.art_mapped.proofs.element.SingleInPlaceMapping.decode.Goals as goal

pub unreachable-requires : goal.unreachable-requires
unreachable-requires g c = ∥∥₁_elim c.requires (hlevel props) (λ of. c.in-None.ensures.none of.0 of.1 of.2)

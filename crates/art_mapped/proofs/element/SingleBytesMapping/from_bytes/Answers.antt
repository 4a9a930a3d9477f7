use Rattle.std.proofs.Math.Logic.{∥∥₁_elim}
use Rattle.std.proofs.Props.{props}
use Rattle.art_mapped.specs.SequenceLaws.{same_from_text}
use Rattle.art_mapped.proofs.element.SingleBytesMapping.from_bytes.Goals as goal

pub unreachable-requires : goal.unreachable-requires
unreachable-requires g c = ∥∥₁_elim c.requires (hlevel props) (λ of. c.in-None.ensures.none of.0 of.1 of.2)

pub returns-clause-inverts : goal.returns-clause-inverts
returns-clause-inverts g c =
    λ value v_in v_text. same_from_text g.met.E.Element.keeps _ value c.in-Some.ensures.some.0 v_in c.in-Some.ensures.some.1 v_text

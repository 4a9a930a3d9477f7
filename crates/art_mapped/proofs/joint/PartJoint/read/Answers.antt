use Rattle.std.proofs.Common.{length, sym, ap, ◌∙◌}
use Rattle.std.proofs.Math.Logic.{∥∥₁_map, ∥∥₁_elim}
use Rattle.std.proofs.Props.{props}
use Rattle.art_mapped.specs.TupleLaws.{key_stands}
use Rattle.art_mapped.proofs.joint.PartJoint.read.Goals as goal

pub from_slice-requires : goal.from_slice-requires
from_slice-requires g c =
    ∥∥₁_elim c.requires (hlevel props) (λ of. sym (ap length of.2.2) ∙ g.met.K.FixedBytes.width of.2.0 of.2.1)

pub from_bytes-requires : goal.from_bytes-requires
from_bytes-requires g c =
    let key = c.from_slice in
    ∥∥₁_map c.requires (λ of. (of.0, of.1.0, key_stands g.M.BytesMapping.stands_for g.met.K.FixedBytes.one_key key.result c.args.bytes.now of.0 key.ensures.key key.ensures.text of.2))

pub returns-clause-inverts : goal.returns-clause-inverts
returns-clause-inverts g c =
    let key = c.from_slice in
    λ value v_in v_of. c.from_bytes.ensures.inverts value v_in.0 (key_stands g.M.BytesMapping.stands_for g.met.K.FixedBytes.one_key key.result c.args.bytes.now value key.ensures.key key.ensures.text v_of)

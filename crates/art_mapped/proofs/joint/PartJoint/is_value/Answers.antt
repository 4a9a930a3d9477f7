use Rattle.std.proofs.Common.{length, sym, ap, ◌∙◌, arith}
use Rattle.std.proofs.lemmas.Bool.Decides.{nat_tests}
use Rattle.std.proofs.Math.Logic.{∥∥₁_map, ∥∥₁_elim}
use Rattle.std.proofs.Props.{props}
use Rattle.art_mapped.specs.TupleLaws.{key_stands}
use Rattle.art_mapped.proofs.joint.PartJoint.is_value.Goals as goal

pub returns-then-bytes-WIDTH : goal.returns-then-bytes-WIDTH
returns-then-bytes-WIDTH g c =
    let key = c.from_slice.result in
    let is = c.from_slice.ensures.key in
    let same = c.from_slice.ensures.text in (
      λ yes. ∥∥₁_map (c.is_value.ensures.0 yes) (λ of.
          let text = g.met.M.BytesMapping.has_text key of.0 of.1 of.2 in
          let long = sym (ap length text) ∙ g.met.K.FixedBytes.width key is in
          (of.0, (of.1, long, (key, is, text, of.2)), (key, is, same, of.2))),
      λ some. c.is_value.ensures.1 (∥∥₁_map some (λ of. (of.0, of.1.0, key_stands g.M.BytesMapping.stands_for g.met.K.FixedBytes.one_key key c.args.bytes.now of.0 is same of.2))),
    )

pub returns-else-bytes-WIDTH : goal.returns-else-bytes-WIDTH
returns-else-bytes-WIDTH g c = (
  λ holds. absurd (grind (arith, nat_tests)),
  λ some. absurd (c.if-bytes-WIDTH.false (rw c.WIDTH.ensures (∥∥₁_elim some (hlevel props) (λ of. sym (ap length of.2.2) ∙ g.met.K.FixedBytes.width of.2.0 of.2.1)))),
)

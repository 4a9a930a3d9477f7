use Rattle.std.proofs.Common.{sym, ◌∙◌}
use Rattle.art_mapped.specs.SequenceLaws.{same_from_joined}
use Rattle.art_mapped.proofs.Answered.{if_ok_both}
use Rattle.art_mapped.proofs.Vecs.{joined_from_vec}
use Rattle.art_mapped.proofs.vector.SeveralBytesMappingVec.from_bytes.Goals as goal

pub vec_of-requires : goal.vec_of-requires
vec_of-requires g c = rw c.deref.ensures.value (joined_from_vec g.met.E.Element.keeps c.args.bytes.items c.requires)

pub returns-clause-inverts : goal.returns-clause-inverts
returns-clause-inverts g c =
    λ value v_in v_text. if_ok_both _ _ _ c.vec_of.result c.vec_of.ensures.in_range c.vec_of.ensures.text (λ read r_in r_text.
    same_from_joined g.met.E.Element.keeps read.items value.items r_in v_in (sym c.deref.ensures.value ∙ r_text) v_text)

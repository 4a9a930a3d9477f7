use Rattle.art_mapped.proofs.Vecs.{vec_from_joined, joined_from_vec}
use Rattle.art_mapped.proofs.vector.SeveralBytesMappingVec.is_value.Goals as goal

pub returns : goal.returns
returns g c =
    let laws = g.met.E.Element.keeps in (
      λ holds. vec_from_joined laws c.args.bytes.now (rw c.deref.ensures.value at (c.are_elements.ensures.0 holds)),
      λ are. c.are_elements.ensures.1 (rw c.deref.ensures.value (joined_from_vec laws c.args.bytes.now.items are)),
    )

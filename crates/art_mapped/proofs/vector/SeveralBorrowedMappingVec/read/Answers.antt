use Rattle.art_mapped.proofs.Vecs.{joined_from_vec}
use Rattle.art_mapped.proofs.vector.SeveralBorrowedMappingVec.read.Goals as goal

pub vec_of-requires : goal.vec_of-requires
vec_of-requires g c = rw c.deref.ensures.value (joined_from_vec g.met.E.Element.keeps c.args.bytes.now.items c.requires)

use Rattle.art_mapped.proofs.Values.{array_value, vector_value}
use Rattle.art_mapped.proofs.laws.bytes_of_arrays_and_vectors.Goals as goal

pub returns-clause-array : goal.returns-clause-array
returns-clause-array g c = array_value g.met.E.Element.keeps

pub returns-clause-vector : goal.returns-clause-vector
returns-clause-vector g c = vector_value g.met.E.Element.keeps

use Rattle.art_index.proofs.ClashLemmas.{never-clashes}
use Rattle.art_index.proofs.laws.encodings_never_clash.Goals as goal

pub returns : goal.returns
returns g c = λ arena key is keys clash. never-clashes g.K.KeyBytes.encoded g.K.KeyBytes.is_key g.K.Ord.cmp g.met.K.RadixKey.sorted g.A.AsBytes.text arena key is keys clash

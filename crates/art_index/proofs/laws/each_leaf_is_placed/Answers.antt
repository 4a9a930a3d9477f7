use Rattle.art_index.proofs.PlaceLemmas.{held-placed}
use Rattle.art_index.proofs.laws.each_leaf_is_placed.Goals as goal

pub returns : goal.returns
returns g c = λ arena root leaf art is_held. held-placed g.A.AsBytes.text arena leaf root art is_held

use Rattle.art_arena.proofs.TreeLemmas.{texts-ascend}
use Rattle.art_arena.proofs.laws.texts_ascend.Goals as goal

pub returns : goal.returns
returns g c = λ path tree sound. texts-ascend path tree sound

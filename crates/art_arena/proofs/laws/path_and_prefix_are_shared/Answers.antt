use Rattle.art_arena.proofs.TreeLemmas.{IsLongestCommonPrefix-node}
use Rattle.art_arena.proofs.laws.path_and_prefix_are_shared.Goals as goal

pub returns : goal.returns
returns g c = λ path prefix pointer branches sound. IsLongestCommonPrefix-node path pointer prefix branches sound

use Rattle.art_arena.proofs.TreeLaws.{places-apart}
use Rattle.art_search.proofs.MetLemmas.{met-distinct}
use Rattle.art_tree.proofs.laws.the_nodes_that_a_key_meets_are_distinct.Goals as goal

pub returns : goal.returns
returns g c = λ arena path tree room key stands sound. met-distinct room tree key (places-apart g.K.AsBytes.text arena path tree stands sound)

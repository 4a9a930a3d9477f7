use Rattle.art_arena.proofs.LeafLemmas.{IsLinkedList-allocated}
use Rattle.art_arena.proofs.laws.allocating_keeps_lists_spelled.Goals as goal

pub returns : goal.returns
returns g c = IsLinkedList-allocated

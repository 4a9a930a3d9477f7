use Rattle.art_arena.proofs.LeafLemmas.{IsLinkedList-where_kept}
use Rattle.art_arena.proofs.laws.lists_are_spelled_where_their_leaves_are_kept.Goals as goal

pub returns : goal.returns
returns g c = IsLinkedList-where_kept

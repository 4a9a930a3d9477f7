use Rattle.art_tree.proofs.Names.{◌≡◌, ◌≤◌, ◌+◌, length, vec_len, vec_capacity, into_iter_items, into_iter_len, room, SameOtherRoom, LeafKind}
use Rattle.art_tree.proofs.LoadLemmas.LeafLists.{IsLinking}
use Rattle.art_tree.proofs.loading.leaves.link_leaves.Given as goal

-- the entries so far have their leaves, and there is spare capacity and memory for the others
abbrev pub invariant-moving : goal.invariant-moving
invariant-moving g l = record {
  linking : IsLinking l.initial.arena l.arena l.fn.entries.items (into_iter_items l.rest) l.leaves.items;
  leaf_room : room l.initial.arena LeafKind + into_iter_len l.rest ≡ room l.arena LeafKind + vec_len l.fn.entries;
  room : into_iter_len l.rest ≤ room l.arena LeafKind;
  memory : into_iter_len l.rest + length l.leaves.items ≤ vec_capacity l.leaves;
  other_room : SameOtherRoom l.initial.arena l.arena LeafKind;
}

abbrev pub decreases-moving : goal.decreases-moving
decreases-moving g l = into_iter_len l.rest

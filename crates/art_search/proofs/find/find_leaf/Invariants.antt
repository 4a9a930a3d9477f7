use Rattle.art_search.proofs.Names.{◌≡◌, ◌<◌, ◌≤◌, ◌+◌, length, PointerTo, IsTreeIn, Tree}
use Rattle.art_search.proofs.WayLemmas.{IsHere}
use Rattle.art_search.proofs.find.find_leaf.Given as goal

-- within the key, with a node visit left for each byte that is left and one more, at the part of
-- the tree that has the key if the tree has it
abbrev pub invariant-way : goal.invariant-way
invariant-way g l = record {
  within : l.depth ≤ length l.key;
  visits : length l.key < l.depth + l.reader.budget;
  same_arena : l.reader.arena ≡ l.fn.reader.arena;
  here : (tree : Tree (PointerTo g.row.K.Denot g.row.V.Denot g.row.PREFIX_LEN)) → IsTreeIn g.K.AsBytes.text l.fn.reader.arena l.fn.root tree → IsHere g.K.AsBytes.text l.fn.reader.arena tree l.key l.at l.depth l.search l.fn.reader.budget l.reader.budget;
}

abbrev pub decreases-way : goal.decreases-way
decreases-way g l = l.reader.budget

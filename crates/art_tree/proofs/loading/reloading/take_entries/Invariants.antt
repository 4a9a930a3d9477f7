use Rattle.art_tree.proofs.Names.{◌≤◌, length, vec_capacity}
use Rattle.art_tree.proofs.LoadLemmas.ReloadedTree.{IsTaking}
use Rattle.art_tree.proofs.loading.reloading.take_entries.Given as goal

-- the entries so far were in the first leaves, and the others are still held
abbrev pub invariant-loop-leaf : goal.invariant-loop-leaf
invariant-loop-leaf g l = record {
  taking : IsTaking l.initial.arena l.leaves l.arena l.leaf-index l.entries.items;
  memory : length l.leaves ≤ vec_capacity l.entries;
}

use Rattle.art_steps.proofs.Names.{◌≤◌, length, map, drop, vec_capacity, leaf_pairs, leaf_pointer}
use Rattle.art_steps.proofs.LoadLemmas.PlacedTrees.{IsRising}
use Rattle.art_steps.proofs.raising.raise.Given as goal

-- the steps so far are done, and memory is left for every leaf
abbrev pub invariant-loop-step : goal.invariant-loop-step
invariant-loop-step g l = record {
  rising : IsRising g.K.AsBytes.text (leaf_pairs g.K.AsBytes.text l.initial.arena l.leaves) (map leaf_pointer l.leaves) l.initial.arena l.arena l.next l.pending.items (drop l.step-index l.steps);
  memory : length l.leaves ≤ vec_capacity l.pending;
}

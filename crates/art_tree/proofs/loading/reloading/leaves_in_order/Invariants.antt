use Rattle.art_tree.proofs.Names.{◌≤◌, ◌-◌, length, vec_capacity, option_map, slab_key, leaf_count}
use Rattle.art_tree.proofs.LoadLemmas.ReloadedTree.{IsGathered}
use Rattle.art_tree.proofs.loading.reloading.leaves_in_order.Given as goal

-- the leaves so far are the first ones of the tree, and there is memory for all
abbrev pub invariant-along : goal.invariant-along
invariant-along g l = record {
  gathered : IsGathered g.K.AsBytes.text l.arena l.fn.root l.leaves.items (option_map slab_key l.at);
  memory : leaf_count l.arena ≤ vec_capacity l.leaves;
}

abbrev pub decreases-along : goal.decreases-along
decreases-along g l = leaf_count l.arena - length l.leaves.items

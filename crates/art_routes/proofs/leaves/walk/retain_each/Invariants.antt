use Rattle.art_routes.proofs.LeafNames.{CalledAtPair, TakesPair, entries_of, option_map, slab_key}
use Rattle.art_routes.specs.Keys.{key_text}
use Rattle.art_routes.proofs.WalkLemmas.{IsWalking, left-at}
use Rattle.art_routes.proofs.leaves.walk.retain_each.Given as goal

-- the entries before this leaf were visited
abbrev pub invariant-along : goal.invariant-along
invariant-along g l =
    IsWalking key_text (CalledAtPair g.F.FnMut) (TakesPair g.F.FnMut) l.fn.f (entries_of key_text l.fn.tree.arena) l.tree.arena (option_map slab_key l.at) l.f

abbrev pub decreases-along : goal.decreases-along
decreases-along g l = left-at key_text l.tree.arena (option_map slab_key l.at)

use Rattle.std.proofs.Common.{◌<◌, ◌^◌, lit<, ◌≡◌, Some, ap}
use Rattle.art_nodes.specs.Pointers.{slab_key}
use Rattle.art_nodes.specs.Leaf.{leaf_key, leaf_value, previous_key, next_key}
use Rattle.art_arena.specs.Links.{leaf_at}
use Rattle.art_arena.proofs.LeafLemmas.{SetsBoth-written, held_leaf-same}
use Rattle.art_links.proofs.leaf_links.set_both.Goals as goal

pub returns-clause-set : goal.returns-clause-set
returns-clause-set g c =
    let key = slab_key c.args.leaf in
    let leaf = c.as_mut.result.now in
    let now = c.set_links.new.self in
    let found : leaf_at c.args.arena.now key ≡ Some leaf = held_leaf-same _ _ c.as_mut.ensures.node in
    SetsBoth-written c.args.arena.now _ key leaf now _ _ (c.as_mut.ensures.changes now) found (ap leaf_key c.set_links.ensures) (ap leaf_value c.set_links.ensures) (ap previous_key c.set_links.ensures) (ap next_key c.set_links.ensures)

pub returns-clause-room : goal.returns-clause-room
returns-clause-room g c = c.as_mut.ensures.room c.set_links.new.self

pub as_mut-requires : goal.as_mut-requires
as_mut-requires g c = (search, (search, (search, (search, (search, (lit< tt, c.requires.held))))))

pub set_links-requires : goal.set_links-requires
set_links-requires g c = let word : 8 < 2 ^ 63 = lit< tt in search

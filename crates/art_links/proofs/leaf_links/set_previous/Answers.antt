use Rattle.std.proofs.Common.{lit<, ◌≡◌, ◌∙◌, Some, ap}
use Rattle.std.specs.Option.{option_map}
use Rattle.art_nodes.specs.Pointers.{slab_key}
use Rattle.art_nodes.specs.Leaf.{leaf_key, leaf_value, previous_key, next_key}
use Rattle.art_arena.specs.Links.{leaf_at}
use Rattle.art_arena.proofs.LeafLemmas.{SetsPrevious-written, SetsPrevious-some, SetsPrevious-none, held_leaf-same}
use Rattle.art_links.proofs.leaf_links.set_previous.Goals as goal

pub returns-in-Some-clause-set : goal.returns-in-Some-clause-set
returns-in-Some-clause-set g c =
    let key = c.in-Some.leaf.key in
    let leaf = c.as_mut-leaf.result.now in
    let now = c.set_links.new.self in
    let found : leaf_at c.args.arena.now key ≡ Some leaf = held_leaf-same _ _ c.as_mut-leaf.ensures.node in
    let kept = c.next-next.ensures in
    SetsPrevious-some _ _ key _ _ (ap (option_map slab_key) c.in-Some.is)
    (SetsPrevious-written c.args.arena.now _ key leaf now _ (c.as_mut-leaf.ensures.changes now) found (ap leaf_key c.set_links.ensures) (ap leaf_value c.set_links.ensures) (ap next_key c.set_links.ensures ∙ kept) (ap previous_key c.set_links.ensures))

pub returns-in_default-clause-set : goal.returns-in_default-clause-set
returns-in_default-clause-set g c = SetsPrevious-none _ _ _ (ap (option_map slab_key) c.in_default.is)

pub returns-in-Some-clause-room : goal.returns-in-Some-clause-room
returns-in-Some-clause-room g c = c.as_mut-leaf.ensures.room c.set_links.new.self

pub as_mut-leaf-requires : goal.as_mut-leaf-requires
as_mut-leaf-requires g c = (search, (search, (search, (search, (search, (lit< tt, c.requires.held _ c.in-Some.is))))))

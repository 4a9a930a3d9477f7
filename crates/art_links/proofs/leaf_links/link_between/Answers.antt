use Rattle.std.proofs.Common.{◌∙◌}
use Rattle.std.specs.Option.{ForSome}
use Rattle.art_nodes.specs.Pointers.{slab_key}
use Rattle.art_arena.specs.Links.{HoldsLeaf, SameButLinks}
use Rattle.art_arena.proofs.LeafLemmas.{StandsBetween-set, SameButLinks-trans, HoldsLeaf-kept}
use Rattle.art_links.proofs.leaf_links.link_between.Goals as goal

pub set_both-requires : goal.set_both-requires
set_both-requires g c =
    let held : HoldsLeaf c.set_next.new.arena (slab_key c.args.this) = HoldsLeaf-kept c.args.arena.now c.set_next.new.arena (slab_key c.args.this) c.set_next.ensures.set.contents c.requires.held in
    search

pub set_previous-requires : goal.set_previous-requires
set_previous-requires g c =
    let two = c.set_both.new.arena in
    let same : SameButLinks c.args.arena.now two = SameButLinks-trans _ _ _ c.set_next.ensures.set.contents c.set_both.ensures.set.contents in
    let after_held : ForSome c.args.after (λ leaf. HoldsLeaf two (slab_key leaf)) = λ leaf named. HoldsLeaf-kept c.args.arena.now two (slab_key leaf) same (c.requires.after_held leaf named) in
    search

pub returns-clause-placed : goal.returns-clause-placed
returns-clause-placed g c = StandsBetween-set c.args.arena.now c.set_next.new.arena c.set_both.new.arena c.set_previous.new.arena _ _ _ c.requires.apart_from_before c.requires.apart_from_after c.set_next.ensures.set c.set_both.ensures.set c.set_previous.ensures.set

pub returns-clause-contents : goal.returns-clause-contents
returns-clause-contents g c = SameButLinks-trans _ _ _ c.set_next.ensures.set.contents (SameButLinks-trans _ _ _ c.set_both.ensures.set.contents c.set_previous.ensures.set.contents)

pub returns-clause-room : goal.returns-clause-room
returns-clause-room g c = λ kind. c.set_previous.ensures.room kind ∙ c.set_both.ensures.room kind ∙ c.set_next.ensures.room kind

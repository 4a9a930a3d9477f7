use Rattle.std.proofs.Common.{◌∙◌}
use Rattle.std.specs.Option.{ForSome}
use Rattle.art_nodes.specs.Pointers.{slab_key}
use Rattle.art_arena.specs.Links.{HoldsLeaf}
use Rattle.art_arena.proofs.LeafLemmas.{Joins-set, SameButLinks-trans, HoldsLeaf-kept}
use Rattle.art_links.proofs.leaf_links.join.Goals as goal

pub set_previous-requires : goal.set_previous-requires
set_previous-requires g c =
    let held : ForSome c.args.after (λ leaf. HoldsLeaf c.set_next.new.arena (slab_key leaf)) = λ leaf named. HoldsLeaf-kept c.args.arena.now c.set_next.new.arena (slab_key leaf) c.set_next.ensures.set.contents (c.requires.after_held leaf named) in
    search

pub returns-clause-joined : goal.returns-clause-joined
returns-clause-joined g c = Joins-set _ _ _ _ _ c.set_next.ensures.set c.set_previous.ensures.set

pub returns-clause-contents : goal.returns-clause-contents
returns-clause-contents g c = SameButLinks-trans _ _ _ c.set_next.ensures.set.contents c.set_previous.ensures.set.contents

pub set_next-requires : goal.set_next-requires
set_next-requires g c = search

pub returns-clause-room : goal.returns-clause-room
returns-clause-room g c = λ kind. c.set_previous.ensures.room kind ∙ c.set_next.ensures.room kind

use Rattle.std.proofs.Common.{◌≢◌, ◌∙◌, Some, sym, ap}
use Rattle.std.specs.Option.{ForSome, option_map}
use Rattle.art_nodes.specs.Pointers.{slab_key}
use Rattle.art_arena.specs.Links.{HoldsLeaf}
use Rattle.art_arena.proofs.LeafLemmas.{apart-from_next, apart-from_previous, HoldsLeaf-previous, HoldsLeaf-next, HoldsLeaf-kept, StandsBetween-at, TakesPlace-cut, SameButLinks-trans, IsLinkedList-replaced}
use Rattle.art_links.proofs.leaf_links.LeafNodeLeafLinks.replace.Goals as goal

pub link_between-requires : goal.link_between-requires
link_between-requires g c =
    let arena = c.args.arena.now in
    let old = slab_key c.args.old in
    let this = slab_key c.args.this in
    let knit = c.requires.old_knit in
    let before_held : ForSome c.neighbours_of-before.result.0 (λ leaf. HoldsLeaf arena (slab_key leaf)) = λ leaf named. HoldsLeaf-next arena (slab_key leaf) old (knit.previous (slab_key leaf) (sym c.neighbours_of-before.ensures.previous ∙ ap (option_map slab_key) named)) in
    let after_held : ForSome c.neighbours_of-before.result.1 (λ leaf. HoldsLeaf arena (slab_key leaf)) = λ leaf named. HoldsLeaf-previous arena (slab_key leaf) old (knit.next (slab_key leaf) (sym c.neighbours_of-before.ensures.next ∙ ap (option_map slab_key) named)) in
    let apart_before : option_map slab_key c.neighbours_of-before.result.0 ≢ Some this = λ named. apart-from_previous arena old this knit c.requires.unlinked (sym c.neighbours_of-before.ensures.previous ∙ named) in
    let apart_after : option_map slab_key c.neighbours_of-before.result.1 ≢ Some this = λ named. apart-from_next arena old this knit c.requires.unlinked (sym c.neighbours_of-before.ensures.next ∙ named) in
    search

pub set_both-requires : goal.set_both-requires
set_both-requires g c =
    let held : HoldsLeaf c.link_between.new.arena (slab_key c.args.old) = HoldsLeaf-kept c.args.arena.now c.link_between.new.arena (slab_key c.args.old) c.link_between.ensures.contents c.requires.old_knit.held in
    search

pub returns-clause-replaced : goal.returns-clause-replaced
returns-clause-replaced g c =
    TakesPlace-cut c.args.arena.now c.link_between.new.arena c.set_both.new.arena (slab_key c.args.old) (slab_key c.args.this) c.requires.apart
    (StandsBetween-at c.args.arena.now c.link_between.new.arena _ _ (slab_key c.args.this) _ _ c.neighbours_of-before.ensures.previous c.neighbours_of-before.ensures.next c.link_between.ensures.placed) c.set_both.ensures.set

pub returns-clause-contents : goal.returns-clause-contents
returns-clause-contents g c = SameButLinks-trans c.args.arena.now c.link_between.new.arena c.set_both.new.arena c.link_between.ensures.contents c.set_both.ensures.set.contents

pub returns-clause-linked : goal.returns-clause-linked
returns-clause-linked g c = λ before after is_list. IsLinkedList-replaced c.args.arena.now c.set_both.new.arena before after (slab_key c.args.old) (slab_key c.args.this) (returns-clause-replaced g c) (returns-clause-contents g c) c.requires.held c.requires.unlinked c.requires.apart is_list

pub returns-clause-room : goal.returns-clause-room
returns-clause-room g c = λ kind. c.set_both.ensures.room kind ∙ c.link_between.ensures.room kind

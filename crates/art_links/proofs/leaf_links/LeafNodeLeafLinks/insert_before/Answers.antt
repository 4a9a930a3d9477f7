use Rattle.std.proofs.Common.{◌≢◌, ◌∙◌, Some, refl, sym, ap}
use Rattle.std.proofs.lemmas.Option.{same_Some}
use Rattle.std.specs.Option.{ForSome, option_map}
use Rattle.art_nodes.specs.Pointers.{slab_key}
use Rattle.art_arena.specs.Links.{HoldsLeaf}
use Rattle.art_arena.proofs.LeafLemmas.{ForSome-held, apart-from_previous, HoldsLeaf-next, IsLinkedList-placed_before, StandsBetween-at}
use Rattle.art_links.proofs.leaf_links.LeafNodeLeafLinks.insert_before.Goals as goal

pub link_between-requires : goal.link_between-requires
link_between-requires g c =
    let arena = c.args.arena.now in
    let sibling = slab_key c.args.sibling in
    let this = slab_key c.args.this in
    let knit = c.requires.sibling_knit in
    let before_held : ForSome c.previous_of-before.result (λ leaf. HoldsLeaf arena (slab_key leaf)) = λ leaf named. HoldsLeaf-next arena (slab_key leaf) sibling (knit.previous (slab_key leaf) (sym c.previous_of-before.ensures ∙ ap (option_map slab_key) named)) in
    let apart : option_map slab_key c.previous_of-before.result ≢ Some this = λ named. apart-from_previous arena sibling this knit c.requires.unlinked (sym c.previous_of-before.ensures ∙ named) in
    let after_held = ForSome-held arena c.args.sibling knit.held in
    let apart_after : Some sibling ≢ Some this = λ same. c.requires.apart (sym (same_Some _ _ same)) in
    search

pub returns-clause-placed : goal.returns-clause-placed
returns-clause-placed g c = StandsBetween-at _ _ _ _ _ _ _ c.previous_of-before.ensures refl c.link_between.ensures.placed

pub returns-clause-contents : goal.returns-clause-contents
returns-clause-contents g c = c.link_between.ensures.contents

pub returns-clause-linked : goal.returns-clause-linked
returns-clause-linked g c = λ before after is_list. IsLinkedList-placed_before c.args.arena.now c.link_between.new.arena before after _ _ (StandsBetween-at _ _ _ _ _ _ _ c.previous_of-before.ensures refl c.link_between.ensures.placed) c.link_between.ensures.contents c.requires.held c.requires.unlinked c.requires.apart is_list

pub returns-clause-room : goal.returns-clause-room
returns-clause-room g c = search

use Rattle.std.proofs.Common.{◌∙◌, sym, ap}
use Rattle.std.specs.Option.{ForSome, option_map}
use Rattle.art_nodes.specs.Pointers.{slab_key}
use Rattle.art_arena.specs.Links.{HoldsLeaf}
use Rattle.art_arena.proofs.LeafLemmas.{HoldsLeaf-previous, HoldsLeaf-next, Joins-at, IsLinkedList-removed, own_links}
use Rattle.art_links.proofs.leaf_links.LeafNodeLeafLinks.remove_self.Goals as goal

pub join-requires : goal.join-requires
join-requires g c =
    let arena = c.args.arena.now in
    let this = slab_key c.args.this in
    let before_held : ForSome c.neighbours_of-before.result.0 (λ leaf. HoldsLeaf arena (slab_key leaf)) = λ leaf named. HoldsLeaf-next arena (slab_key leaf) this (c.requires.previous (slab_key leaf) (sym c.neighbours_of-before.ensures.previous ∙ ap (option_map slab_key) named)) in
    let after_held : ForSome c.neighbours_of-before.result.1 (λ leaf. HoldsLeaf arena (slab_key leaf)) = λ leaf named. HoldsLeaf-previous arena (slab_key leaf) this (c.requires.next (slab_key leaf) (sym c.neighbours_of-before.ensures.next ∙ ap (option_map slab_key) named)) in
    search

pub returns-clause-removed : goal.returns-clause-removed
returns-clause-removed g c = Joins-at c.args.arena.now c.join.new.arena _ _ _ _ c.neighbours_of-before.ensures.previous c.neighbours_of-before.ensures.next c.join.ensures.joined

pub returns-clause-linked : goal.returns-clause-linked
returns-clause-linked g c = λ before after is_list. IsLinkedList-removed c.args.arena.now c.join.new.arena before after (slab_key c.args.this) (Joins-at c.args.arena.now c.join.new.arena _ _ _ _ c.neighbours_of-before.ensures.previous c.neighbours_of-before.ensures.next c.join.ensures.joined) c.join.ensures.contents is_list

pub returns-clause-own_previous : goal.returns-clause-own_previous
returns-clause-own_previous g c = (own_links c.args.arena.now c.join.new.arena (slab_key c.args.this) c.requires (Joins-at c.args.arena.now c.join.new.arena _ _ _ _ c.neighbours_of-before.ensures.previous c.neighbours_of-before.ensures.next c.join.ensures.joined)).0

pub returns-clause-own_next : goal.returns-clause-own_next
returns-clause-own_next g c = (own_links c.args.arena.now c.join.new.arena (slab_key c.args.this) c.requires (Joins-at c.args.arena.now c.join.new.arena _ _ _ _ c.neighbours_of-before.ensures.previous c.neighbours_of-before.ensures.next c.join.ensures.joined)).1

pub returns-clause-room : goal.returns-clause-room
returns-clause-room g c = search

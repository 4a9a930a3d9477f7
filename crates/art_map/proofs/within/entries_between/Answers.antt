use Rattle.std.proofs.Common.{rules, ◌≤◌, ◌∙◌, Some, length, drop, take, ap, subst, sym}
use Rattle.art_map.specs.Pages.{map_entries}
use Rattle.art_map.specs.Seats.{IsInPage, seat_place}
use Rattle.art_map.specs.Trees.{pages_of}
use Rattle.art_map.proofs.within.entries_between.Goals as goal

pub up_to_leaf-requires : goal.up_to_leaf-requires
up_to_leaf-requires g c =
    let start : IsInPage c.args.head.now.entries c.args.tree.now.arena c.args.start.0 c.args.start.1 = c.requires.start in
    let end : IsInPage c.args.head.now.entries c.args.tree.now.arena (Some c.in-Some.last) c.args.end.1 =
    subst (λ leaf. IsInPage c.args.head.now.entries c.args.tree.now.arena leaf c.args.end.1) c.in-Some.is c.requires.end in
    search rules

pub returns-in-Some : goal.returns-in-Some
returns-in-Some g c =
    let head = c.args.head.now.entries in let arena = c.args.tree.now.arena in
    c.up_to_leaf.ensures
    ∙ ap (λ leaf. drop (seat_place head arena c.args.start.0 c.args.start.1) (take (seat_place head arena leaf c.args.end.1) (map_entries head (pages_of arena)))) (sym c.in-Some.is)

pub up_to_head-requires : goal.up_to_head-requires
up_to_head-requires g c =
    let start : IsInPage c.args.head.now.entries c.args.tree.now.arena c.args.start.0 c.args.start.1 = c.requires.start in
    let end : c.args.end.1 ≤ length c.args.head.now.entries =
    subst (λ leaf. IsInPage c.args.head.now.entries c.args.tree.now.arena leaf c.args.end.1) c.in-None.is c.requires.end in
    search rules

pub returns-in-None : goal.returns-in-None
returns-in-None g c =
    let head = c.args.head.now.entries in let arena = c.args.tree.now.arena in
    c.up_to_head.ensures
    ∙ ap (λ leaf. drop (seat_place head arena c.args.start.0 c.args.start.1) (take (seat_place head arena leaf c.args.end.1) (map_entries head (pages_of arena)))) (sym c.in-None.is)

use Rattle.std.proofs.Common.{rules, ◌≤◌, ◌∙◌, length, Some, drop, take, ap, subst, sym}
use Rattle.art_index.specs.Places.{IsPlaced}
use Rattle.art_map.specs.Pages.{map_entries}
use Rattle.art_map.specs.Runs.{IsRun}
use Rattle.art_map.specs.Seats.{IsInPage, seat_place}
use Rattle.art_map.specs.Trees.{pages_of}
use Rattle.art_map.proofs.SpanLemmas.{later-low, places-rise}
use Rattle.art_map.proofs.WithinLemmas.{between-none}
use Rattle.art_map.proofs.within.up_to_leaf.Goals as goal

pub from_head-requires : goal.from_head-requires
from_head-requires g c =
    let start : c.args.start.1 ≤ length c.args.head.now.entries =
    subst (λ leaf. IsInPage c.args.head.now.entries c.args.tree.now.arena leaf c.args.start.1) c.in_default.is c.requires.start in
    let end : IsInPage c.args.head.now.entries c.args.tree.now.arena (Some c.args.last) c.args.end = c.requires.end in
    search rules

pub returns-in_default : goal.returns-in_default
returns-in_default g c =
    let head = c.args.head.now.entries in let arena = c.args.tree.now.arena in
    c.from_head.ensures
    ∙ ap (λ leaf. drop (seat_place head arena leaf c.args.start.1) (take (seat_place head arena (Some c.args.last) c.args.end) (map_entries head (pages_of arena)))) (sym c.in_default.is)

pub is_before-requires : goal.is_before-requires
is_before-requires g c =
    let leaf : IsPlaced (λ anchor. anchor) c.args.tree.now.arena c.args.last = c.requires.end.0 in
    let other : IsPlaced (λ anchor. anchor) c.args.tree.now.arena c.in-Some.first =
    (subst (λ leaf. IsInPage c.args.head.now.entries c.args.tree.now.arena leaf c.args.start.1) c.in-Some.is c.requires.start).0 in
    search rules

pub returns-then-is_before : goal.returns-then-is_before
returns-then-is_before g c =
    let head = c.args.head.now.entries in let arena = c.args.tree.now.arena in
    let here = subst (λ leaf. IsInPage head arena leaf c.args.start.1) c.in-Some.is c.requires.start in
    let there = c.requires.end in
    let low = subst (λ leaf. seat_place head arena (Some c.args.last) c.args.end ≤ seat_place head arena leaf c.args.start.1) (sym c.in-Some.is)
    (places-rise head arena c.args.last c.in-Some.first there.0 here.0 (c.is_before.ensures.before c.if-is_before.true) c.args.end c.args.start.1 there.1) in
    c.entries_of_slice.ensures
    ∙ sym (between-none (map_entries head (pages_of arena)) (seat_place head arena c.args.start.0 c.args.start.1) (seat_place head arena (Some c.args.last) c.args.end) low)

pub from_leaf-requires : goal.from_leaf-requires
from_leaf-requires g c =
    let head = c.args.head.now.entries in let arena = c.args.tree.now.arena in
    let here = subst (λ leaf. IsInPage head arena leaf c.args.start.1) c.in-Some.is c.requires.start in
    let there = c.requires.end in
    let run : IsRun arena c.in-Some.first c.args.last = record {
      begins = here.0;
      ends = there.0;
      ascends = later-low head arena c.in-Some.first c.args.last here.0 there.0 (c.is_before.ensures.behind c.if-is_before.false);
    } in
    let ready : (run : IsRun arena c.in-Some.first c.args.last) × (c.args.start.1 ≤ length run.begins.entry.1.entries) × (c.args.end ≤ length run.ends.entry.1.entries) =
    (run, here.1, there.1) in
    search rules

pub returns : goal.returns
returns g c =
    let head = c.args.head.now.entries in let arena = c.args.tree.now.arena in
    c.from_leaf.ensures
    ∙ ap (λ leaf. drop (seat_place head arena leaf c.args.start.1) (take (seat_place head arena (Some c.args.last) c.args.end) (map_entries head (pages_of arena)))) (sym c.in-Some.is)

use Rattle.std.proofs.Common.{◌≤◌, ◌∙◌, drop, take, ap, subst, sym}
use Rattle.std.proofs.lemmas.List.{take-append-le}
use Rattle.art_map.specs.Pages.{entries_in, map_entries}
use Rattle.art_map.specs.Seats.{IsInPage, seat_place}
use Rattle.art_map.specs.Trees.{pages_of}
use Rattle.art_map.proofs.SpanLemmas.{places-after-head}
use Rattle.art_map.proofs.WithinLemmas.{between-none}
use Rattle.art_map.proofs.within.up_to_head.Goals as goal

pub returns-in-None : goal.returns-in-None
returns-in-None g c =
    let head = c.args.head.now.entries in let arena = c.args._tree.now.arena in let start = c.args.start.1 in let end = c.args.end in
    c.entries_of_slice.ensures ∙ c.slice_between.ensures
    ∙ ap (λ l. drop start (take end l)) c.entries.ensures.entries
    ∙ ap (drop start) (sym (take-append-le end head (entries_in (pages_of arena)) c.requires.end))
    ∙ ap (λ leaf. drop (seat_place head arena leaf start) (take end (map_entries head (pages_of arena)))) (sym c.in-None.is)

pub returns-in-Some : goal.returns-in-Some
returns-in-Some g c =
    let head = c.args.head.now.entries in let arena = c.args._tree.now.arena in let start = c.args.start.1 in
    let here = subst (λ leaf. IsInPage head arena leaf start) c.in-Some.is c.requires.start in
    let low = subst (λ leaf. c.args.end ≤ seat_place head arena leaf start) (sym c.in-Some.is)
    (places-after-head head arena c.in-Some._leaf here.0 start c.args.end c.requires.end) in
    c.entries_of_slice-in-Some.ensures ∙ sym (between-none (map_entries head (pages_of arena)) (seat_place head arena c.args.start.0 start) c.args.end low)

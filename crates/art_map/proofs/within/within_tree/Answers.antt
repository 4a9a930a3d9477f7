use Rattle.std.proofs.Common.{◌-◌, ◌∙◌, sym}
use Rattle.art_map.specs.Pages.{map_entries}
use Rattle.art_map.specs.Ranges.{is_from, is_past}
use Rattle.art_map.specs.Seats.{seat_place}
use Rattle.art_map.specs.Trees.{pages_of}
use Rattle.art_map.proofs.WithinLemmas.{between-part, within-gaps}
use Rattle.art_map.proofs.within.within_tree.Goals as goal

pub returns-clause-within : goal.returns-clause-within
returns-clause-within g c =
    let head = c.args.head.now.entries in let arena = c.args.tree.now.arena in
    c.entries_between.ensures
    ∙ sym (within-gaps (λ entry. is_from g.P.RadixQuery.compare c.args.start entry.0) (λ entry. is_past g.Q.RadixQuery.compare c.args.end entry.0) (map_entries head (pages_of arena))
    (seat_place head arena c.start_of-from.result.0 c.start_of-from.result.1) (seat_place head arena c.end_of-to.result.0 c.end_of-to.result.1)
    c.start_of-from.ensures.gap c.end_of-to.ensures.gap)

pub returns-clause-part : goal.returns-clause-part
returns-clause-part g c =
    let head = c.args.head.now.entries in let arena = c.args.tree.now.arena in
    let from = seat_place head arena c.start_of-from.result.0 c.start_of-from.result.1 in
    let to = seat_place head arena c.end_of-to.result.0 c.end_of-to.result.1 in
    (from, to - from, c.entries_between.ensures ∙ between-part (map_entries head (pages_of arena)) from to)

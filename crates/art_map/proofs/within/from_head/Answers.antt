use Rattle.std.proofs.Common.{rules, ◌∙◌, drop, length, ap, arith, subst}
use Rattle.art_index.specs.Places.{IsFirst}
use Rattle.art_map.specs.Runs.{IsRun, entries_left, pages_between}
use Rattle.art_map.specs.Trees.{pages_in}
use Rattle.art_map.proofs.SpanLemmas.{first-low, from-head, head-entries, none-placed}
use Rattle.art_map.proofs.within.from_head.Goals as goal

pub returns-in_default : goal.returns-in_default
returns-in_default g c =
    let arena = c.args.tree.now.arena in
    absurd (none-placed c.args.head.now.entries arena c.args.last c.requires.end.0 (subst (IsFirst (λ anchor. anchor) arena) c.in_default.is c.first_page.ensures))

pub take_last-requires : goal.take_last-requires
take_last-requires g c =
    let first = c.in-Some.ensures in
    let run : IsRun c.args.tree.now.arena c.in-Some.first c.args.last = record {
      begins = first.0;
      ends = c.requires.end.0;
      ascends = first-low c.args.head.now.entries c.args.tree.now.arena c.in-Some.first c.args.last first.0 c.requires.end.0 first.1;
    } in
    search rules

pub slice_up_to-requires : goal.slice_up_to-requires
slice_up_to-requires g c =
    let first = c.in-Some.ensures in
    let run : IsRun c.args.tree.now.arena c.in-Some.first c.args.last = record {
      begins = first.0;
      ends = c.requires.end.0;
      ascends = first-low c.args.head.now.entries c.args.tree.now.arena c.in-Some.first c.args.last first.0 c.requires.end.0 first.1;
    } in
    let long = ap length (head-entries c.args.head.now.entries c.args.tree.now.arena c.in-Some.first c.args.last run first.1
    (pages_in (λ run. pages_between run.0.now.arena run.1 run.2) c.take_last.result.1) c.take_last.ensures.taken.0 c.take_last.result.0.now c.take_last.ensures.taken.1) in
    let inside = c.requires.end.1 in omega (arith, long, inside)

pub returns : goal.returns
returns g c =
    let first = c.in-Some.ensures in
    let run : IsRun c.args.tree.now.arena c.in-Some.first c.args.last = record {
      begins = first.0;
      ends = c.requires.end.0;
      ascends = first-low c.args.head.now.entries c.args.tree.now.arena c.in-Some.first c.args.last first.0 c.requires.end.0 first.1;
    } in
    let middle = pages_in (λ run. pages_between run.0.now.arena run.1 run.2) c.take_last.result.1 in
    let front = c.slice_from-front.ensures ∙ ap (drop c.args.start) c.entries.ensures.entries in
    c.entries_of_run.ensures
    ∙ (λ i. entries_left (front i) middle (c.slice_up_to.ensures i))
    ∙ from-head c.args.head.now.entries c.args.tree.now.arena c.in-Some.first c.args.last run first.1
    middle c.take_last.ensures.taken.0 c.take_last.result.0.now c.take_last.ensures.taken.1
    c.args.start c.args.end c.requires.start c.requires.end.1

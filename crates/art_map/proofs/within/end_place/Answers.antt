use Rattle.std.proofs.Common.{◌∙◌, Some, length, ap, arith}
use Rattle.art_map.specs.Seats.{seat_place}
use Rattle.art_map.proofs.SpanLemmas.{end-at-last, end-of-head}
use Rattle.art_map.proofs.within.end_place.Goals as goal

pub returns-in-Some-clause-inside : goal.returns-in-Some-clause-inside
returns-in-Some-clause-inside g c =
    let here = c.in-Some.ensures.0 in
    let long = c.len.ensures.len ∙ ap (λ e. length e.1.entries) (c.page.ensures here) in
    (here, omega (arith, long))

pub returns-in-Some-clause-end : goal.returns-in-Some-clause-end
returns-in-Some-clause-end g c =
    let head = c.args.head.now.entries in let arena = c.args.tree.now.arena in
    ap (seat_place head arena (Some c.in-Some.leaf)) (c.len.ensures.len ∙ ap (λ e. length e.1.entries) (c.page.ensures c.in-Some.ensures.0))
    ∙ end-at-last head arena c.in-Some.leaf c.in-Some.ensures

pub returns-in-None-clause-end : goal.returns-in-None-clause-end
returns-in-None-clause-end g c = c.len-in-None.ensures.len ∙ end-of-head c.args.head.now.entries c.args.tree.now.arena c.in-None.ensures

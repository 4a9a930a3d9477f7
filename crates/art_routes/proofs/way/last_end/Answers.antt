use Rattle.art_arena.specs.InnerRef.{inner_shown}
use Rattle.art_routes.specs.Ends.{IsKeyOf}
use Rattle.art_routes.proofs.EndLemmas.{if-none, if-some, last-end, no-end, none-is}
use Rattle.art_routes.proofs.way.last_end.Goals as goal

pub returns-in_err-longest-clause-none : goal.returns-in_err-longest-clause-none
returns-in_err-longest-clause-none g c =
    let of : IsKeyOf c.args.key.now c.args.address c.args.most = record { family = c.requires.family; fits = c.requires.fits; within = c.requires.within; key_is = c.requires.key } in
    none-is c.from_residual.result (λ rest end. absurd (c.in_err-longest.ensures.none c.args.address c.args.most rest of end))

pub returns-clause-none : goal.returns-clause-none
returns-clause-none g c =
    let of : IsKeyOf c.args.key.now c.args.address c.args.most = record { family = c.requires.family; fits = c.requires.fits; within = c.requires.within; key_is = c.requires.key } in
    let end = c.in_ok-longest.ensures.some c.args.address c.args.most of in
    if-none c.next_child.result (no-end c.args.address c.requires.family c.requires.fits (inner_shown c.args.node.now).children c.args.most c.args.place c.in_ok-longest.longest end) c.next_child.ensures.none

pub returns-clause-some : goal.returns-clause-some
returns-clause-some g c =
    let of : IsKeyOf c.args.key.now c.args.address c.args.most = record { family = c.requires.family; fits = c.requires.fits; within = c.requires.within; key_is = c.requires.key } in
    let end = c.in_ok-longest.ensures.some c.args.address c.args.most of in
    if-some c.next_child.result (last-end c.args.address c.requires.family c.requires.fits (inner_shown c.args.node.now).children c.args.most c.args.place c.in_ok-longest.longest end) c.next_child.ensures.some

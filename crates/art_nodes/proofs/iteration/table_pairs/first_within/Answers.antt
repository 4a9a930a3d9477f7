use Rattle.std.proofs.Common.{◌<◌, ◌∙◌, ap, sym, Some, length, arith}
use Rattle.art_nodes.proofs.ChildTableLemmas.{length-marked, marked-some, marked-empty, within-empty, within-first}
use Rattle.art_nodes.proofs.iteration.table_pairs.first_within.Goals as goal

pub returns-in_err-byte-clause-none : goal.returns-in_err-byte-clause-none
returns-in_err-byte-clause-none g c =
    rw c.from_residual.ensures (within-empty _ c.args.from c.args.end (simp length-marked (omega arith)) (λ byte from under. marked-empty _ c.args.children.now byte (c.in_err-byte.ensures.none byte from (omega arith))))

pub returns-then-place-end-clause-found : goal.returns-then-place-end-clause-found
returns-then-place-end-clause-found g c =
    let byte = c.in_ok-byte.byte in
    let before : byte < c.args.end = omega (arith, c.if-place-end.true, c.from-place.ensures) in
    let within : byte < length c.args.children.now = omega arith in
    let child = c.index-children-place.result in
    let read = rw c.from-place.ensures at c.index-children-place.is in
    within-first _ c.args.from c.args.end byte child (simp length-marked (omega arith)) c.in_ok-byte.ensures.found.0 before (marked-some _ c.args.children.now byte child within c.in_ok-byte.ensures.found.1 ∙ ap Some (sym read)) (λ other from under. marked-empty _ c.args.children.now other (c.in_ok-byte.ensures.first other from under))

pub returns-else-place-end-clause-none : goal.returns-else-place-end-clause-none
returns-else-place-end-clause-none g c =
    (within-empty _ c.args.from c.args.end (simp length-marked (omega arith)) (λ other from under. marked-empty _ c.args.children.now other (c.in_ok-byte.ensures.first other from (omega (arith, c.from-place.ensures, c.if-place-end.false)))))

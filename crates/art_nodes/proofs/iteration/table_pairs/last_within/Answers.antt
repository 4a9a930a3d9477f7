use Rattle.std.proofs.Common.{◌<◌, ◌≤◌, ◌∙◌, ap, sym, Some, length, arith}
use Rattle.art_nodes.proofs.ChildTableLemmas.{length-marked, marked-some, marked-empty, within-empty, within-last}
use Rattle.art_nodes.proofs.iteration.table_pairs.last_within.Goals as goal

pub returns-in_err-byte-clause-none : goal.returns-in_err-byte-clause-none
returns-in_err-byte-clause-none g c =
    rw c.from_residual.ensures (within-empty _ c.args.from c.args.end (simp length-marked (omega arith)) (λ byte from under. marked-empty _ c.args.children.now byte (c.in_err-byte.ensures.none byte (omega arith) under)))

pub returns-then-from-place-clause-found : goal.returns-then-from-place-clause-found
returns-then-from-place-clause-found g c =
    let byte = c.in_ok-byte.byte in
    let after : c.args.from ≤ byte = omega (arith, c.if-from-place.true, c.from-place.ensures) in
    let within : byte < length c.args.children.now = omega (arith, c.in_ok-byte.ensures.found.0) in
    let child = c.index-children-place.result in
    let read = rw c.from-place.ensures at c.index-children-place.is in
    within-last _ c.args.from c.args.end byte child (simp length-marked (omega arith)) after c.in_ok-byte.ensures.found.0 (marked-some _ c.args.children.now byte child within c.in_ok-byte.ensures.found.1 ∙ ap Some (sym read)) (λ other from under. marked-empty _ c.args.children.now other (c.in_ok-byte.ensures.last other from under))

pub returns-else-from-place-clause-none : goal.returns-else-from-place-clause-none
returns-else-from-place-clause-none g c =
    (within-empty _ c.args.from c.args.end (simp length-marked (omega arith)) (λ other from under. marked-empty _ c.args.children.now other (c.in_ok-byte.ensures.last other (omega (arith, c.from-place.ensures, c.if-from-place.false)) under)))

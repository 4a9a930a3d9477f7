use Rattle.std.proofs.Common.{◌+◌, ◌∙◌, sym, subst}
use Rattle.std.specs.Prelude.{IfNone, IfSome}
use Rattle.routes.specs.Reading.{AddsRoute, IsNextFault}
use Rattle.routes.proofs.ReadLemmas.{start_read, next_comment, next_route, next_bad}
use Rattle.routes.proofs.table.table_of.Goals as goal

pub loop-rest-init : goal.loop-rest-init
loop-rest-init c = start_read c.args.file.now c.new.result c.new.ensures

pub loop-rest-preserved : goal.loop-rest-preserved
loop-rest-preserved c =
    next_comment c.args.file.now c.loop-rest.rest.now c.loop-rest.number c.loop-rest.table.routes c.loop-rest.invariant c.first_line.result.0.now c.first_line.result.1.now c.first_line.ensures.lines c.first_line.ensures.shorter (sym c.is_comment.ensures ∙ c.if-not-is_comment.false)

pub loop-rest-preserved-in-None : goal.loop-rest-preserved-in-None
loop-rest-preserved-in-None c =
    let line = c.first_line.result.0.now in
    let adds = subst (λ fault. IfNone fault (AddsRoute (c.loop-rest.number + 1) line c.loop-rest.table.routes c.add_line.new.table.routes)) c.in-None.is c.in_ok-add_line.ensures.added in
    next_route c.args.file.now c.loop-rest.rest.now c.loop-rest.number c.loop-rest.table.routes c.loop-rest.invariant line c.first_line.result.1.now c.first_line.ensures.lines c.add_line.new.table.routes c.first_line.ensures.shorter (sym c.is_comment.ensures ∙ c.if-not-is_comment.true) adds

pub returns-in-Some-clause-refused : goal.returns-in-Some-clause-refused
returns-in-Some-clause-refused c =
    let line = c.first_line.result.0.now in
    let is = subst (λ fault. IfSome fault (IsNextFault line c.loop-rest.table.routes)) c.in-Some.is c.in_ok-add_line.ensures.fault in
    next_bad c.args.file.now c.loop-rest.rest.now c.loop-rest.number c.loop-rest.table.routes c.loop-rest.invariant line c.first_line.result.1.now c.first_line.ensures.lines (sym c.is_comment.ensures ∙ c.if-not-is_comment.true) c.in-Some.fault is

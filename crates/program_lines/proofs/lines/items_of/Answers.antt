use Rattle.std.proofs.Common.{◌+◌, arith, refl, sym, subst}
use Rattle.program_lines.specs.Lines.{lines_of}
use Rattle.program_lines.proofs.SaidLines.{said_next, said_nothing, said_line}
use Rattle.program_lines.proofs.lines.items_of.Goals as goal

pub returns-in-Err-clause-first_bad : goal.returns-in-Err-clause-first_bad
returns-in-Err-clause-first_bad g c =
    (refl, said_nothing g.L.ReadLine.reads (lines_of c.args.bytes.now) c.loop-rest.rest.now c.loop-rest.items.items c.loop-rest.invariant c.first_line.result.0.now c.first_line.result.1.now c.first_line.ensures.lines (c.len.result + 1) (omega (arith, c.len.ensures)) c.in-Err.ensures.refused)

pub returns-in-Err-clause-fault : goal.returns-in-Err-clause-fault
returns-in-Err-clause-fault g c =
    let here = said_line g.L.ReadLine.reads (lines_of c.args.bytes.now) c.loop-rest.rest.now c.loop-rest.items.items c.loop-rest.invariant c.first_line.result.0.now c.first_line.result.1.now c.first_line.ensures.lines (c.len.result + 1) (omega (arith, c.len.ensures)) in
    subst (λ line. g.L.ReadLine.refuses line c.in-Err.fault) (sym here) c.in-Err.ensures.fault

pub loop-rest-preserved : goal.loop-rest-preserved
loop-rest-preserved g c =
    said_next g.L.ReadLine.reads (lines_of c.args.bytes.now) c.loop-rest.rest.now c.loop-rest.items.items c.loop-rest.invariant c.first_line.result.0.now c.first_line.result.1.now c.first_line.ensures.lines c.in-Ok.item c.push.new.self.items c.in-Ok.ensures.said c.in_ok-push-in-Ok.ensures.items

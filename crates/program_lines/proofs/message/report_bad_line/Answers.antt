use Rattle.program_lines.specs.Faults.{shown_fault}
use Rattle.program_lines.specs.Lines.{lines_of, line_at}
use Rattle.program_lines.specs.Messages.{message}
use Rattle.program_lines.proofs.Writes.{told_begun}
use Rattle.program_lines.proofs.message.report_bad_line.Goals as goal

pub returns-in-Ok-clause-told : goal.returns-in-Ok-clause-told
returns-in-Ok-clause-told g c = λ two.
    let said = rw c.line_numbered-line.ensures at c.in-Ok.ensures.text in
    told_begun (shown_fault g.F.Display.output c.args.bad.fault) (λ text. message c.args.names.program.now c.args.names.file.now c.args.bad.number text (line_at (lines_of c.args.file.now) c.args.bad.number)) c.new-told.result.items c.push_message.new.output.items c.deref.result.now (g.E.Write.contents c.args.errors.now) (g.E.Write.contents c.write_out.new.output) c.write_out.result c.new-told.ensures.items said c.deref.ensures.value c.write_out.ensures.whole c.write_out.ensures.beginning

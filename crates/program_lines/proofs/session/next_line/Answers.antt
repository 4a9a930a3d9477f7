use Rattle.std.proofs.Common.{arith}
use Rattle.program_lines.proofs.Throughs.{takes_line}
use Rattle.program_lines.proofs.session.next_line.Goals as goal

pub returns-in-Ok-clause-line : goal.returns-in-Ok-clause-line
returns-in-Ok-clause-line g c = λ some.
    takes_line (g.B.Read.remaining c.args.input.now) (g.B.Read.remaining c.read_until.new.self) c.clear.new.self.items c.read_until.new.buf.items c.drop_end.new.line.items c.in-Ok.field-0 c.clear.ensures.items (λ zero. let test = c.in-Ok.field-0-test in absurd (grind (arith, test, zero))) (omega (arith, c.in-Ok.ensures.ok, c.read_until.new.buf.ok.0, c.clear.new.self.ok.0)) c.in-Ok.ensures.bytes c.in-Ok.ensures.rest c.drop_end.ensures

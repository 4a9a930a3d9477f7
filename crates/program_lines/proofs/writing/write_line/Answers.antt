use Rattle.std.proofs.Common.{◌∙◌}
use Rattle.arrayvec.specs.ArrayString.{ArrayString}
use Rattle.program_lines.proofs.Writes.{line_told}
use Rattle.program_lines.proofs.writing.write_line.Goals as goal

pub returns-in-Ok : goal.returns-in-Ok
returns-in-Ok g c =
    line_told (λ (b : ArrayString). b.bytes) (g.D.Display.output c.args.text) c.new-buffer.result c.writeln.new.self c.as_bytes.result.now (g.W.Write.contents c.args.output.now) (g.W.Write.contents c.write_out.new.output) c.write_out.result c.new-buffer.ensures c.in-Ok.ensures.writes (c.as_bytes.ensures.value ∙ c.as_str.ensures.value) c.write_out.ensures.whole c.write_out.ensures.beginning

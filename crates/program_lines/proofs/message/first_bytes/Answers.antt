use Rattle.std.proofs.lemmas.List.{take_min}
use Rattle.program_lines.proofs.message.first_bytes.Goals as goal

pub returns : goal.returns
returns c = rw c.min.ensures (take_min 80 c.args.line.now)

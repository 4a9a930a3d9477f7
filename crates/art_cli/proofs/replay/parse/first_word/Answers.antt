use Rattle.program_lines.proofs.Cuts.{parts_cut, parts_alone}
use Rattle.art_cli.proofs.replay.parse.first_word.Goals as goal

pub returns-in-Some : goal.returns-in-Some
returns-in-Some c = parts_cut 32 c.args.line.now c.in-Some.word.now c.in-Some.rest.now c.in-Some.ensures.cut

pub returns-in-None : goal.returns-in-None
returns-in-None c = parts_alone 32 c.args.line.now c.in-None.ensures.none

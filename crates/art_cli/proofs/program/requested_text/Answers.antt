use Rattle.std.proofs.Common.{rules}
use Rattle.art_cli.proofs.program.requested_text.Goals as goal

pub returns-in-Find16-clause-text : goal.returns-in-Find16-clause-text
returns-in-Find16-clause-text c = search rules

use Rattle.std.proofs.Common.{rules}
use Rattle.art_cli.proofs.find.print_found.print_removal.Goals as goal

pub returns-in-None : goal.returns-in-None
returns-in-None c = search rules

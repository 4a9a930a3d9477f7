use Rattle.std.proofs.Common.{rules}
use Rattle.art_cli.proofs.request.request_of.Goals as goal

pub returns-in-Two-find-text-3 : goal.returns-in-Two-find-text-3
returns-in-Two-find-text-3 c = search rules

pub returns-in_default : goal.returns-in_default
returns-in_default c = search rules

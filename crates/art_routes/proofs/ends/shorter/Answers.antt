use Rattle.art_routes.proofs.EndLemmas.{table-step}
use Rattle.art_routes.proofs.ends.shorter.Goals as goal

pub returns : goal.returns
returns c = table-step c.args.end c.from.result c.from.ensures

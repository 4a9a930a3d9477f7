use Rattle.std.proofs.Common.{sym}
use Rattle.art_map.proofs.WithinLemmas.{between-part}
use Rattle.art_map.proofs.within.slice_between.Goals as goal

pub returns-then-start-end : goal.returns-then-start-end
returns-then-start-end g c = sym (between-part c.args.entries.now c.args.start c.args.end)

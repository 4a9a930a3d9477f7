use Rattle.std.proofs.Common.{◌∙◌, append-nil}
use Rattle.art_map.proofs.within.entries_of_slice.Goals as goal

pub returns : goal.returns
returns g c = c.entries_of_run.ensures ∙ append-nil c.args.entries.now

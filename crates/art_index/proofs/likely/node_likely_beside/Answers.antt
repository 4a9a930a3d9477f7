use Rattle.std.proofs.Common.{arith}
use Rattle.art_index.proofs.LikelyLemmas.{deep-fits}
use Rattle.art_index.proofs.likely.node_likely_beside.Goals as goal

pub way-smaller : goal.way-smaller
way-smaller g c = omega (arith, c.in-Down.ensures.1, deep-fits g.A.AsBytes.text c.args.arena.now c.in-Down.child c.in-Down.below c.in-Down.ensures.0)

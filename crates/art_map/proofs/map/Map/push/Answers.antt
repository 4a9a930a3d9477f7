use Rattle.std.proofs.Common.{◌∙◌}
use Rattle.art_map.proofs.ManyLemmas.{inserted-behind}
use Rattle.art_map.proofs.map.Map.push.Goals as goal

pub returns-in-Ok : goal.returns-in-Ok
returns-in-Ok g c = c.in-Ok.ensures.entries ∙ inserted-behind g.K.Ord.cmp c.args.self.now c.args.key c.args.value (c.is_below.ensures c.if-not-is_below.false)

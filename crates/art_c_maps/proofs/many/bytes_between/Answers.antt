use Rattle.std.proofs.Common.{◌∙◌, max, ap}
use Rattle.art_c_maps.proofs.ManyLemmas.{between}
use Rattle.art_c_maps.proofs.many.bytes_between.Goals as goal

pub returns : goal.returns
returns c = between c.args.bytes.now c.args.start c.args.end c.min-from.result c.max-to.result c.min-from.ensures (c.max-to.ensures ∙ ap (λ most. max most c.min-from.result) c.min.ensures)

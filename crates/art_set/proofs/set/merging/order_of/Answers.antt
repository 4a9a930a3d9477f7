use Rattle.std.proofs.Common.{◌∙◌, ap, sym}
use Rattle.art_set.proofs.set.merging.order_of.Goals as goal

pub returns : goal.returns
returns g c = c.cmp.ensures ∙ sym (ap (λ order. order c.args.key.now c.args.other.now) g.met.K.RadixKey.ordered)

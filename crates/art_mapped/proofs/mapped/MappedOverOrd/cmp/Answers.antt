use Rattle.std.proofs.Common.{rules, ◌∙◌}
use Rattle.art_mapped.proofs.mapped.MappedOverOrd.cmp.Goals as goal
use Rattle.art_mapped.specs.MappingLaws.{order_of_held}

pub returns-clause-texts : goal.returns-clause-texts
returns-clause-texts g c = search rules

pub returns-clause-values : goal.returns-clause-values
returns-clause-values g c = λ x y x_held y_held.
    returns-clause-texts g c ∙ order_of_held g.K.AsBytes.text g.met.B.BytesMapping.holds_value g.met.B.BytesMapping.has_text g.met.B.OrderedMapping.keeps_order c.args.self.now.repr c.args.other.now.repr x y x_held y_held

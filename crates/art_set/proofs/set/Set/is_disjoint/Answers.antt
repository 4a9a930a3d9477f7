use Rattle.art_set.proofs.OrderedKeys.{apart-either-way}
use Rattle.art_set.proofs.set.Set.is_disjoint.Goals as goal

pub returns-else-len : goal.returns-else-len
returns-else-len g c =
    let cmp = g.K.Ord.cmp in let total = g.met.K.Ord.total in
    let keys = c.args.self.now in let others = c.args.other.now in
    (λ is. apart-either-way cmp total others keys (c.shares_none-else-len.ensures.0 is), λ none. c.shares_none-else-len.ensures.1 (apart-either-way cmp total keys others none))

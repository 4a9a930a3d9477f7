use Rattle.std.proofs.Common.{◌∙◌, true}
use Rattle.art_set.specs.Walks.{walk}
use Rattle.art_set.proofs.WalkLemmas.{walk-merges}
use Rattle.art_set.proofs.set.Set.union.Goals as goal

pub returns : goal.returns
returns g c =
    c.merge_keys.ensures ∙ (λ i. walk (g.met.K.RadixKey.ordered i) true true true (c.iter.ensures.keys i) (c.iter-2.ensures.keys i))
    ∙ walk-merges g.K.Ord.cmp true c.args.self.now c.args.other.now

use Rattle.std.proofs.Common.{◌∙◌, true, false}
use Rattle.art_set.specs.Walks.{walk}
use Rattle.art_set.proofs.WalkLemmas.{walk-intersects}
use Rattle.art_set.proofs.set.Set.intersection.Goals as goal

pub returns : goal.returns
returns g c =
    c.merge_keys.ensures ∙ (λ i. walk (g.met.K.RadixKey.ordered i) false true false (c.iter.ensures.keys i) (c.iter-2.ensures.keys i))
    ∙ walk-intersects g.K.Ord.cmp g.met.K.Ord.total c.args.self.now c.args.other.now c.iter.ensures.ordered c.iter-2.ensures.ordered

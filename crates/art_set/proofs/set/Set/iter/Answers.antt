use Rattle.art_set.proofs.EndKeys.{all-found}
use Rattle.art_set.proofs.set.Set.iter.Goals as goal

pub returns-clause-found : goal.returns-clause-found
returns-clause-found g c = all-found g.K.Ord.cmp g.met.K.Ord.total c.args.self.now

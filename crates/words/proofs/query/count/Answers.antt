use Rattle.std.proofs.Common.{inl, inr, refl}
use Rattle.words.proofs.query.count.Goals as goal

pub returns-in-Err-clause-fault : goal.returns-in-Err-clause-fault
returns-in-Err-clause-fault c = rw c.in-Err.ensures.fault (inr (refl, (35, c.args.prefix.now, inl refl, refl, c.in-Err.ensures.refused)))

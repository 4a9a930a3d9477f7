use Rattle.std.proofs.Common.{inl, inr, refl}
use Rattle.words.proofs.query.before.Goals as goal

pub returns-in-Err-clause-fault : goal.returns-in-Err-clause-fault
returns-in-Err-clause-fault c = rw c.in-Err.ensures.fault (inr (refl, (60, c.args.word.now, inr (inl refl), refl, c.in-Err.ensures.refused)))

use Rattle.std.proofs.Common.{inr, refl}
use Rattle.words.proofs.query.after.Goals as goal

pub returns-in-Err-clause-fault : goal.returns-in-Err-clause-fault
returns-in-Err-clause-fault c = rw c.in-Err.ensures.fault (inr (refl, (62, c.args.word.now, inr (inr refl), refl, c.in-Err.ensures.refused)))

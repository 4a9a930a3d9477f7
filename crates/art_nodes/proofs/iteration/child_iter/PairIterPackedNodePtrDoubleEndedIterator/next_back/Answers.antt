use Rattle.std.proofs.Common.{length, length-append, ap, arith}
use Rattle.art_nodes.proofs.iteration.child_iter.PairIterPackedNodePtrDoubleEndedIterator.next_back.Goals as goal

pub returns-in_err-byte-clause-steps : goal.returns-in_err-byte-clause-steps
returns-in_err-byte-clause-steps g c = rw c.from_residual.ensures c.in_err-byte.ensures

pub returns-in_err-byte-clause-goes : goal.returns-in_err-byte-clause-goes
returns-in_err-byte-clause-goes g c = rw c.from_residual.ensures (record { on = λ _. tt; keeps = tt; rests = λ _. tt })

pub returns-clause-steps : goal.returns-clause-steps
returns-clause-steps g c = rw c.to_opaque.ensures c.in_ok-byte.ensures

pub returns-clause-goes : goal.returns-clause-goes
returns-clause-goes g c = record { on = λ _. (tt, tt, omega (arith, simp length-append at (ap length (returns-clause-steps g c)))); keeps = tt; rests = λ _. tt }

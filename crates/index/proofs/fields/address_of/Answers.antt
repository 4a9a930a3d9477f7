use Rattle.std.proofs.Common.{inl, inr}
use Rattle.index.proofs.fields.address_of.Goals as goal

pub returns-in-Err-clause-refused : goal.returns-in-Err-clause-refused
returns-in-Err-clause-refused c = λ address is. elim is [ inl six ↦ c.in-Err.ensures address six | inr four ↦ c.in_default.ensures four.0 four.1 ]

use Rattle.index.proofs.FieldLemmas.{time_is_text}
use Rattle.index.proofs.fields.time_of.Goals as goal

pub returns-in_default-clause-refused : goal.returns-in_default-clause-refused
returns-in_default-clause-refused c = λ time is. c.in_default.ensures.cases.0 (time_is_text c.args.text.now is.0)

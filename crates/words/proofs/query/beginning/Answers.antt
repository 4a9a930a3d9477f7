use Rattle.words.proofs.QueryLemmas.{says_none, on_err, anyway}
use Rattle.words.proofs.query.beginning.Goals as goal

pub returns-in_err-without_zero-in-Some-clause-refused : goal.returns-in_err-without_zero-in-Some-clause-refused
returns-in_err-without_zero-in-Some-clause-refused c =
    anyway c.from_residual-in_err-without_zero-in-Some.result (says_none c.args.rest.now c.in-Some.prefix.now c.in-Some.digits.now c.in-Some.ensures.cut (λ most none counted. c.in_err-without_zero-in-Some.ensures.refused none))

pub returns-in_ok-without_zero-in-Some-clause-refused : goal.returns-in_ok-without_zero-in-Some-clause-refused
returns-in_ok-without_zero-in-Some-clause-refused c =
    on_err c.first_of.result (λ refused. says_none c.args.rest.now c.in-Some.prefix.now c.in-Some.digits.now c.in-Some.ensures.cut (λ most none counted. refused most counted)) c.first_of.ensures.refused

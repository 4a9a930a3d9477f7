use Rattle.std.proofs.Common.{◌++◌, [], inr, refl, sym}
use Rattle.program_lines.proofs.session.answer_line.Goals as goal

pub returns-in_ok-report_line-in-Some-clause-answered :
    goal.returns-in_ok-report_line-in-Some-clause-answered
returns-in_ok-report_line-in-Some-clause-answered g c = λ file is.
    let said = rw c.in-Some.is at c.in_ok-push_reply.ensures.fault in
    let told = c.in_ok-report_line-in-Some.ensures in
    let kept = sym said.1 in
    let none = sym c.in_ok-write_waiting-in-Some.ensures.none_left in
    ([], told.0, inr (refl, (told.1, (c.in-Some.fault, said.0, told.2))), told.1, (c.push_reply.new.output.items, c.in_ok-write_waiting-in-Some.ensures.whole, λ i. kept i ++ none i), told.3)

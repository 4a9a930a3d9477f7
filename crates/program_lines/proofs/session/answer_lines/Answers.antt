use Rattle.std.proofs.Common.{sym, subst}
use Rattle.std.specs.Io.Buffered.{reader_remaining}
use Rattle.program_lines.specs.Sessions.{TakesLine}
use Rattle.program_lines.proofs.AnswerLemmas.{anyway, nothing_begun, session_begun, session_moved, session_line, session_stopped}
use Rattle.program_lines.proofs.session.answer_lines.Goals as goal

pub loop-number-init : goal.loop-number-init
loop-number-init g c = λ file is. session_begun _ _ _ _ _ _

pub returns-in_err-make_room-clause-stopped : goal.returns-in_err-make_room-clause-stopped
returns-in_err-make_room-clause-stopped g c =
    anyway c.from_residual.result (λ file is. session_stopped _ _ _ _ _ _ _ _ _ _ _ _ (c.loop-number.invariant file is) _ c.in_err-make_room.ensures.beginning)

pub returns-in_err-next_line-clause-stopped : goal.returns-in_err-next_line-clause-stopped
returns-in_err-next_line-clause-stopped g c =
    anyway c.from_residual-in_err-next_line.result (λ file is. session_stopped _ _ _ _ _ _ _ _ _ _ _ _ (session_moved _ _ _ _ _ _ _ _ _ _ _ _ (c.loop-number.invariant file is) _ _ c.in_ok-make_room.ensures.moved) _ (nothing_begun _ _))

pub returns-in_err-write_waiting-clause-stopped : goal.returns-in_err-write_waiting-clause-stopped
returns-in_err-write_waiting-clause-stopped g c =
    anyway c.from_residual-in_err-write_waiting.result (λ file is. session_stopped _ _ _ _ _ _ _ _ _ _ _ _ (session_moved _ _ _ _ _ _ _ _ _ _ _ _ (c.loop-number.invariant file is) _ _ c.in_ok-make_room.ensures.moved) _ c.in_err-write_waiting.ensures.beginning)

pub returns-in_err-replied-clause-stopped : goal.returns-in_err-replied-clause-stopped
returns-in_err-replied-clause-stopped g c =
    anyway c.from_residual-in_err-replied.result (λ file is. session_stopped _ _ _ _ _ _ _ _ _ _ _ _ (session_moved _ _ _ _ _ _ _ _ _ _ _ _ (c.loop-number.invariant file is) _ _ c.in_ok-make_room.ensures.moved) _ c.in_err-replied.ensures.beginning)

pub loop-number-preserved : goal.loop-number-preserved
loop-number-preserved g c = λ file is.
    let one = c.in_ok-replied.ensures.answered file is in
    let before = session_moved _ _ _ _ _ _ _ _ _ _ _ _ (c.loop-number.invariant file is) _ _ c.in_ok-make_room.ensures.moved in
    let takes = subst (TakesLine (reader_remaining g.R.Read.remaining c.loop-number.input) (reader_remaining g.R.Read.remaining c.next_line.new.input)) (sym c.deref.ensures.value) (c.in_ok-next_line.ensures.line c.if-not-branch.false) in
    rw c.both-quiet.ensures (session_line _ _ _ _ _ _ _ _ _ _ _ _ before _ _ _ _ _ _ _ _ takes one.2 one.3 one.4 one.5)

pub returns-clause-stopped : goal.returns-clause-stopped
returns-clause-stopped g c = λ file is. session_stopped _ _ _ _ _ _ _ _ _ _ _ _ (c.loop-number.invariant file is) _ (nothing_begun _ _)

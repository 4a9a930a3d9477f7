use Rattle.std.proofs.Common.{arith, inl}
use Rattle.art_cli.specs.Program.{IsAsked}
use Rattle.art_cli.proofs.Failures.{keeps_itself, nothing_printed, device_told}
use Rattle.art_cli.proofs.program.run.Goals as goal

pub returns-in-Err-clause-failed_run_prints_a_beginning : goal.returns-in-Err-clause-failed_run_prints_a_beginning
returns-in-Err-clause-failed_run_prints_a_beginning g c _ = nothing_printed (IsAsked c.args.words.now) (g.R.Read.remaining c.args.input.now) (g.W.Write.contents c.args.output.now)

pub returns-in-Err-clause-bad_input_prints_nothing : goal.returns-in-Err-clause-bad_input_prints_nothing
returns-in-Err-clause-bad_input_prints_nothing g c _ = keeps_itself (g.W.Write.contents c.args.output.now)

pub returns-in-Ok-write_out-clause-success_is_quiet : goal.returns-in-Ok-write_out-clause-success_is_quiet
returns-in-Ok-write_out-clause-success_is_quiet g c _ = keeps_itself (g.E.Write.contents c.args.errors.now)

pub returns-in-Ok-write_out-clause-status : goal.returns-in-Ok-write_out-clause-status
returns-in-Ok-write_out-clause-status g c = omega arith

pub returns-in-Err-clause-refused_memory_prints_nothing : goal.returns-in-Err-clause-refused_memory_prints_nothing
returns-in-Err-clause-refused_memory_prints_nothing g c _ = inl (keeps_itself (g.W.Write.contents c.args.output.now))

pub returns-clause-told : goal.returns-clause-told
returns-clause-told g c _ =
    device_told c.args.words.now c.in-Some.request (g.R.Read.remaining c.args.input.now) c.report-in-Err-write_out.result (g.E.Write.contents c.args.errors.now) (g.E.Write.contents c.report-in-Err-write_out.new.errors) c.in-Some.ensures c.report-in-Err-write_out.ensures.status c.report-in-Err-write_out.ensures.told

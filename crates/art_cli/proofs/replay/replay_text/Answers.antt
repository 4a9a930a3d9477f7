use Rattle.std.proofs.Common.{rules}
use Rattle.art_cli.specs.Program.{IsReplayFailure}
use Rattle.art_cli.proofs.Failures.{first_bad_line}
use Rattle.art_cli.proofs.replay.replay_text.Goals as goal

pub returns-in_err-commands-clause-refused : goal.returns-in_err-commands-clause-refused
returns-in_err-commands-clause-refused c =
    let given = c.in_err-commands.ensures in
    let failed : IsReplayFailure c.deref.result.now c.in_err-commands.field-0.0 = first_bad_line c.deref.result.now c.in_err-commands.field-0.0 given.first_bad given.fault in
    search rules

use Rattle.std.proofs.Common.{◌≡◌, ◌++◌, [], ◌∷◌, length, arith, rules}
use Rattle.art_bytes.specs.SliceKey.{slice_key_text}
use Rattle.art_cli.specs.Find.{with_text}
use Rattle.art_cli.specs.Program.{IsFindFailure}
use Rattle.art_cli.proofs.FindLines.{read_one, read_all, read_bad}
use Rattle.art_cli.proofs.find.check_lines.Goals as goal

pub returns-in_err-after-clause-refused : goal.returns-in_err-after-clause-refused
returns-in_err-after-clause-refused c =
    let done = c.loop-rest.invariant in
    let bad = c.in_err-after.ensures.nothing_said in
    let failed : IsFindFailure c.args.input.now c.in_err-after.field-0.0 = read_bad c.args.input.now c.loop-rest.rest.now c.loop-rest.number done.0 done.1 c.in_err-after.field-0.0 bad.0 bad.1 in
    search rules

pub loop-rest-preserved : goal.loop-rest-preserved
loop-rest-preserved c =
    let done = c.loop-rest.invariant in
    let command = with_text slice_key_text c.in_ok-after.field-0-0 in
    (done.0 ++ command ∷ [], read_one c.args.input.now c.loop-rest.rest.now c.loop-rest.number done.0 done.1 command c.in_ok-after.after.now c.in_ok-after.ensures.said c.in_ok-after.ensures.shorter)

pub returns-clause-commands : goal.returns-clause-commands
returns-clause-commands c =
    let done = c.loop-rest.invariant in
    let none : length c.loop-rest.rest.now ≡ 0 = grind arith in
    (done.0, read_all c.args.input.now c.loop-rest.rest.now c.loop-rest.number done.0 done.1 none)

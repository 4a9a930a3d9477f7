use Rattle.std.proofs.Common.{◌++◌, [], ◌∷◌, string_bytes, rules}
use Rattle.art_bytes.specs.SliceKey.{slice_key_text}
use Rattle.art_cli.specs.Find.{with_text, no_entries, after_all}
use Rattle.art_cli.specs.Program.{IsFindFailure}
use Rattle.art_cli.proofs.FindLemmas.{so_far_one}
use Rattle.art_cli.proofs.FindLines.{read_one, read_bad, read_refused, others_give}
use Rattle.art_cli.proofs.find.replies_text.Goals as goal

pub returns-in_err-command-clause-refused : goal.returns-in_err-command-clause-refused
returns-in_err-command-clause-refused g c =
    let before = c.loop-rest.invariant in
    let bad = c.in_err-command.ensures.nothing_said in
    let failed : IsFindFailure c.args.input.now c.in_err-command.field-0.0 = read_bad c.args.input.now c.loop-rest.rest.now c.loop-rest.number before.commands before.read c.in_err-command.field-0.0 bad.0 bad.1 in
    search rules

pub returns-in_err-next-clause-refused : goal.returns-in_err-next-clause-refused
returns-in_err-next-clause-refused g c =
    let before = c.loop-rest.invariant in
    let command = with_text slice_key_text c.in_ok-command.command in
    let cut = c.in_ok-command.ensures.said in
    let left = c.in_ok-command.after.now in
    let due = c.in_err-next.ensures.refused (after_all no_entries before.commands) before.so_far.holds in
    let failed : IsFindFailure c.args.input.now c.in_err-next.field-0.0 = read_refused c.args.input.now c.loop-rest.rest.now c.loop-rest.number before.commands before.read command left cut (others_give c.loop-rest.rest.now left command cut before.ahead) before.so_far.admitted_all c.in_err-next.field-0.0 due in
    search rules

pub loop-rest-preserved : goal.loop-rest-preserved
loop-rest-preserved g c =
    let before = c.loop-rest.invariant in
    let command = with_text slice_key_text c.in_ok-command.command in
    let cut = c.in_ok-command.ensures.said in
    let left = c.in_ok-command.after.now in
    let done = c.in_ok-next.ensures.carried_out (after_all no_entries before.commands) before.so_far.holds before.so_far.next_is in
    record {
      commands = before.commands ++ command ∷ [];
      read = read_one c.args.input.now c.loop-rest.rest.now c.loop-rest.number before.commands before.read command left cut c.in_ok-command.ensures.shorter;
      so_far = so_far_one slice_key_text c.loop-rest.tree.arena c.carry_out.new.tree.arena before.commands command c.loop-rest.next c.in_ok-next.next (string_bytes c.loop-rest.text) (string_bytes c.carry_out.new.text) before.so_far done;
      ahead = others_give c.loop-rest.rest.now left command cut before.ahead;
    }

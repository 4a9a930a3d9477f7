use Rattle.std.proofs.Common.{◌≡◌, ◌∙◌, ℕ, ◌+◌, [], string_bytes, refl, sym, ap, subst, option_map, rules, append-nil, None}
use Rattle.art_steps.specs.Dictionary.{entry_at}
use Rattle.art_cli.specs.Find.{with_text}
use Rattle.art_cli.specs.Answer.{IsCarriedOut, IsFindAnswer, answer_text, removal_text}
use Rattle.program_lines.specs.Lines.{line}
use Rattle.art_cli.proofs.FindLemmas.{number_taken, admitted, holds_inserted, holds_removed}
use Rattle.art_cli.proofs.find.carry_out.carry_out.Goals as goal

pub returns-in-Ok-clause-carried_out : goal.returns-in-Ok-clause-carried_out
returns-in-Ok-clause-carried_out g c = λ entries holds next.
    let text = g.K.AsBytes.text in
    let old = c.args.tree.now.arena in
    let new = c.insert.new.self.arena in
    let before = string_bytes c.args.text.now in
    subst (λ command. IsCarriedOut text entries (with_text text command) new before before (c.args.next + 1)) (sym c.in-Insert.is) record {
      admitted = admitted text old entries holds (text c.in-Insert.key) c.in-Ok.ensures.no_refusal;
      reply = ([], sym (append-nil before), refl);
      holds = holds_inserted text old new entries holds c.in-Insert.key c.args.next c.in-Ok.ensures.entry c.in-Ok.ensures.others next;
      next_is = ap (λ n. n + 1) next;
    }

pub returns-in_ok-print_removal-in-Remove-clause-carried_out :
    goal.returns-in_ok-print_removal-in-Remove-clause-carried_out
returns-in_ok-print_removal-in-Remove-clause-carried_out g c = λ entries holds next.
    let text = g.K.AsBytes.text in
    let old = c.args.tree.now.arena in
    let new = c.remove.new.self.arena in
    let key = c.as_bytes.ensures.text in
    let removed = subst (λ x. c.in_ok-removed-in-Remove.removed ≡ entry_at text old x) key c.in_ok-removed-in-Remove.ensures.removed in
    let taken = number_taken (λ entry number gives. search rules) c.in_ok-removed-in-Remove.removed c.map.result c.map.ensures.cases in
    let number = taken ∙ ap (option_map (λ (entry : _ × ℕ). entry.1)) removed ∙ holds (text c.in-Remove.key) in
    subst (λ command. IsCarriedOut text entries (with_text text command) new (string_bytes c.args.text.now) (string_bytes c.print_removal.new.text) c.args.next) (sym c.in-Remove.is) record {
      admitted = tt;
      reply = (line (removal_text c.map.result), c.in_ok-print_removal-in-Remove.ensures, ap (λ n. line (removal_text n)) number);
      holds = holds_removed text old new entries holds (text c.in-Remove.key)
          (subst (λ x. entry_at text new x ≡ None) key c.in_ok-removed-in-Remove.ensures.gone)
          (λ x apart. c.in_ok-removed-in-Remove.ensures.others x (λ same. apart (same ∙ key)));
      next_is = next;
    }

pub returns-in_ok-print_answer-in-Find-clause-carried_out :
    goal.returns-in_ok-print_answer-in-Find-clause-carried_out
returns-in_ok-print_answer-in-Find-clause-carried_out g c = λ entries holds next.
    let text = g.K.AsBytes.text in
    let is = subst (λ x. IsFindAnswer entries x c.answer-answer.result.0 c.answer-answer.result.1) c.as_bytes-in-Find.ensures.text (c.answer-answer.ensures entries holds) in
    subst (λ command. IsCarriedOut text entries (with_text text command) c.args.tree.now.arena (string_bytes c.args.text.now) (string_bytes c.print_answer.new.text) c.args.next) (sym c.in-Find.is) record {
      admitted = tt;
      reply = (line (answer_text c.answer-answer.result.0 c.answer-answer.result.1), c.in_ok-print_answer-in-Find.ensures, (c.answer-answer.result.0, c.answer-answer.result.1, is, refl));
      holds = holds;
      next_is = next;
    }

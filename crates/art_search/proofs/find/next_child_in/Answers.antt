use Rattle.art_search.proofs.Names.{◌∙◌, ◌+◌, Some, sym, ap, arith, slice_get-get_or, if_none_always}
use Rattle.art_search.proofs.DescentLemmas.{from-match, is-match, is-mismatch, step-mismatched, step-childless, step-on}
use Rattle.art_search.proofs.find.next_child_in.Goals as goal

pub returns-in_err-matched-clause-nowhere : goal.returns-in_err-matched-clause-nowhere
returns-in_err-matched-clause-nowhere g c =
    let (mismatch, is) = is-mismatch c.attempt_pessimistic_match_prefix.result (sym c.ok.ensures.value ∙ c.in_err-matched.was) in
    if_none_always c.from_residual.result _ (step-mismatched _ _ _ _ c.requires mismatch (is ∙ c.attempt_pessimistic_match_prefix.ensures.matched))

pub returns-in_err-child-clause-nowhere : goal.returns-in_err-child-clause-nowhere
returns-in_err-child-clause-nowhere g c =
    let answer = c.attempt_pessimistic_match_prefix in
    let matched = c.in_ok-matched.matched in
    let there = sym c.ok.ensures.value ∙ c.in_ok-matched.was in
    let at = c.in_ok-byte.ensures.lookup in
    let at_index = slice_get-get_or c.args.key.now (c.args.depth + matched.matched_bytes) c.in_ok-byte.field-0.now (omega arith) ∙ ap Some (sym at.1) in
    if_none_always c.from_residual-in_err-child.result _ (step-childless _ _ _ _ c.requires matched (is-match answer.result matched there ∙ answer.ensures.matched) (from-match answer.result _ matched there answer.ensures.whole) _ at_index (sym c.lookup_child.ensures.child ∙ c.in_err-child.was))

pub returns-clause-on : goal.returns-clause-on
returns-clause-on g c =
    let answer = c.attempt_pessimistic_match_prefix in
    let matched = c.in_ok-matched.matched in
    let there = sym c.ok.ensures.value ∙ c.in_ok-matched.was in
    let at = c.in_ok-byte.ensures.lookup in
    let at_index = slice_get-get_or c.args.key.now (c.args.depth + matched.matched_bytes) c.in_ok-byte.field-0.now (omega arith) ∙ ap Some (sym at.1) in
    step-on _ _ _ _ c.requires matched (is-match answer.result matched there ∙ answer.ensures.matched) (from-match answer.result _ matched there answer.ensures.whole) _ at_index c.in_ok-child.child (sym c.lookup_child.ensures.child ∙ c.in_ok-child.was)

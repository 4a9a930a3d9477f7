use Rattle.std.proofs.Common.{◌≡◌, inl, inr, rules, sym, subst, w64}
use Rattle.std.specs.Prelude.{IfErr}
use Rattle.std.proofs.lemmas.Int.{to_z-of_z}
use Rattle.program_lines.proofs.Replies.{on_error}
use Rattle.index.specs.Fields.{IsTime}
use Rattle.index.specs.declared.fault.Fault.TheVariants.{BadTime}
use Rattle.index.proofs.QueryLemmas.{anyway, has_bounds, no_bounds, no_space, no_last, no_times}
use Rattle.index.proofs.query.bounds_of.Goals as goal

pub returns-in_default-clause-fault : goal.returns-in_default-clause-fault
returns-in_default-clause-fault c first last has = c.in_default.ensures _ has.0

pub returns-in_default-split_once-clause-fault : goal.returns-in_default-split_once-clause-fault
returns-in_default-split_once-clause-fault c = no_space c.args.text.now c.in-Some.rest.now c.in-Some.ensures c.in_default-split_once.ensures.none

pub returns-in_default-split_once-clause-refused :
    goal.returns-in_default-split_once-clause-refused
returns-in_default-split_once-clause-refused c = no_bounds c.args.text.now (no_space c.args.text.now c.in-Some.rest.now c.in-Some.ensures c.in_default-split_once.ensures.none)

pub returns-in_default-after-clause-fault : goal.returns-in_default-after-clause-fault
returns-in_default-after-clause-fault c =
    no_last c.args.text.now c.in-Some.rest.now c.in-Some.ensures c.in-Some-split_once.first.now c.in-Some-split_once.next.now c.in-Some-split_once.ensures.cut c.in_default-after.ensures

pub returns-in_default-after-clause-refused : goal.returns-in_default-after-clause-refused
returns-in_default-after-clause-refused c =
    no_bounds c.args.text.now (no_last c.args.text.now c.in-Some.rest.now c.in-Some.ensures c.in-Some-split_once.first.now c.in-Some-split_once.next.now c.in-Some-split_once.ensures.cut c.in_default-after.ensures)

pub returns-in_err-from-clause-fault : goal.returns-in_err-from-clause-fault
returns-in_err-from-clause-fault c =
    let out : IfErr c.from_residual.result (λ fault. fault ≡ BadTime) = search rules in
    on_error c.from_residual.result out (λ fault is. rw is (c.in-Some-split_once.first.now, c.in-Some-after.last.now, has_bounds c.args.text.now c.in-Some.rest.now c.in-Some.ensures c.in-Some-split_once.first.now c.in-Some-split_once.next.now c.in-Some-split_once.ensures.cut c.in-Some-after.last.now c.in-Some-after.ensures, inl c.in_err-from.ensures.refused))

pub returns-in_err-from-clause-refused : goal.returns-in_err-from-clause-refused
returns-in_err-from-clause-refused c =
    anyway c.from_residual.result (no_times c.args.text.now c.in-Some.rest.now c.in-Some.ensures c.in-Some-split_once.first.now c.in-Some-split_once.next.now c.in-Some-split_once.ensures.cut c.in-Some-after.last.now c.in-Some-after.ensures (λ from to is later. c.in_err-from.ensures.refused from is))

pub returns-in_err-to-clause-fault : goal.returns-in_err-to-clause-fault
returns-in_err-to-clause-fault c =
    let out : IfErr c.from_residual-in_err-to.result (λ fault. fault ≡ BadTime) = search rules in
    on_error c.from_residual-in_err-to.result out (λ fault is. rw is (c.in-Some-split_once.first.now, c.in-Some-after.last.now, has_bounds c.args.text.now c.in-Some.rest.now c.in-Some.ensures c.in-Some-split_once.first.now c.in-Some-split_once.next.now c.in-Some-split_once.ensures.cut c.in-Some-after.last.now c.in-Some-after.ensures, inr c.in_err-to.ensures.refused))

pub returns-in_err-to-clause-refused : goal.returns-in_err-to-clause-refused
returns-in_err-to-clause-refused c =
    anyway c.from_residual-in_err-to.result (no_times c.args.text.now c.in-Some.rest.now c.in-Some.ensures c.in-Some-split_once.first.now c.in-Some-split_once.next.now c.in-Some-split_once.ensures.cut c.in-Some-after.last.now c.in-Some-after.ensures (λ from to is later. c.in_err-to.ensures.refused to later))

pub returns-clause-said : goal.returns-clause-said
returns-clause-said c =
    let from = c.in_ok-from.from in
    let to = c.in_ok-to.to in
    let from_is = c.in_ok-from.ensures.said in
    let to_is = c.in_ok-to.ensures.said in
    (c.in-Some-split_once.first.now, c.in-Some-after.last.now, has_bounds c.args.text.now c.in-Some.rest.now c.in-Some.ensures c.in-Some-split_once.first.now c.in-Some-split_once.next.now c.in-Some-split_once.ensures.cut c.in-Some-after.last.now c.in-Some-after.ensures, subst (IsTime c.in-Some-split_once.first.now) (sym (to_z-of_z w64 from from_is.2)) from_is, subst (IsTime c.in-Some-after.last.now) (sym (to_z-of_z w64 to to_is.2)) to_is)

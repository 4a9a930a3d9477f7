use Rattle.std.proofs.Common.{◌≡◌, ◌∷◌, ◌++◌, ◌∙◌, refl, rules, sym, ap, subst, w64}
use Rattle.std.proofs.lemmas.Int.{to_z-of_z}
use Rattle.std.specs.Prelude.{IfErr}
use Rattle.program_lines.proofs.Replies.{on_error}
use Rattle.index.specs.Fields.{IsTime}
use Rattle.index.specs.declared.fault.Fault.TheVariants.{BadAddress, BadTime}
use Rattle.index.proofs.QueryLemmas.{anyway}
use Rattle.index.proofs.ReadingLemmas.{no_comma, no_second, no_fields}
use Rattle.index.proofs.reading.reading_of.Goals as goal

pub returns-in_default-clause-refused : goal.returns-in_default-clause-refused
returns-in_default-clause-refused c = no_comma c.args.line.now c.in_default.ensures.none

pub returns-in_default-split_once-clause-refused :
    goal.returns-in_default-split_once-clause-refused
returns-in_default-split_once-clause-refused c = no_second c.args.line.now c.in-Some.host.now c.in-Some.rest.now c.in-Some.ensures.cut c.in_default-split_once.ensures.none

pub returns-in_err-address-clause-refused : goal.returns-in_err-address-clause-refused
returns-in_err-address-clause-refused c =
    anyway c.from_residual.result (no_fields c.args.line.now c.in-Some.host.now c.in-Some.rest.now c.in-Some.ensures.cut c.in-Some-split_once.seconds.now c.in-Some-split_once.field-0-1.now c.in-Some-split_once.ensures.cut (λ address time is later. c.in_err-address.ensures.refused address is))

pub returns-in_err-time-clause-refused : goal.returns-in_err-time-clause-refused
returns-in_err-time-clause-refused c =
    anyway c.from_residual-in_err-time.result (no_fields c.args.line.now c.in-Some.host.now c.in-Some.rest.now c.in-Some.ensures.cut c.in-Some-split_once.seconds.now c.in-Some-split_once.field-0-1.now c.in-Some-split_once.ensures.cut (λ address time is later. c.in_err-time.ensures.refused time later))

pub returns-clause-said : goal.returns-clause-said
returns-clause-said c =
    let cut = c.in-Some.ensures.cut in
    let next = c.in-Some-split_once.ensures.cut in
    let host = c.in-Some.host.now in
    let seconds = c.in-Some-split_once.seconds.now in
    let time_is = c.in_ok-time.ensures.said in
    (host, seconds, c.in-Some-split_once.field-0-1.now, cut.0 ∙ ap (λ rest. host ++ 44 ∷ rest) next.0, cut.1, next.1, c.in_ok-address.ensures.said, subst (IsTime seconds) (sym (to_z-of_z w64 c.in_ok-time.time time_is.2)) time_is, refl)

pub returns-in_err-address-clause-fault : goal.returns-in_err-address-clause-fault
returns-in_err-address-clause-fault c =
    let out : IfErr c.from_residual.result (λ fault. fault ≡ BadAddress) = search rules in
    on_error c.from_residual.result out (λ fault is. rw is (c.in-Some.host.now, c.in-Some.rest.now, c.in-Some.ensures.cut, c.in_err-address.ensures.refused))

pub returns-in_err-time-clause-fault : goal.returns-in_err-time-clause-fault
returns-in_err-time-clause-fault c =
    let out : IfErr c.from_residual-in_err-time.result (λ fault. fault ≡ BadTime) = search rules in
    on_error c.from_residual-in_err-time.result out (λ fault is. rw is (c.in-Some.host.now, c.in-Some.rest.now, c.in-Some-split_once.seconds.now, c.in-Some-split_once.field-0-1.now, c.in-Some.ensures.cut, c.in-Some-split_once.ensures.cut, c.in_err-time.ensures.refused))

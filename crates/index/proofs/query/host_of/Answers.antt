use Rattle.std.proofs.Common.{◌≡◌, inl, inr, rules}
use Rattle.std.specs.Prelude.{IfErr}
use Rattle.program_lines.proofs.Replies.{on_error}
use Rattle.index.specs.Queries.{IsBoundsFault}
use Rattle.index.specs.declared.fault.Fault.TheVariants.{BadAddress}
use Rattle.index.proofs.QueryLemmas.{anyway, no_address, no_host}
use Rattle.index.proofs.query.host_of.Goals as goal

pub returns-in_err-address-in-None-clause-refused :
    goal.returns-in_err-address-in-None-clause-refused
returns-in_err-address-in-None-clause-refused c =
    anyway c.from_residual.result (no_address c.args.text.now c.in-None.ensures.none c.in_err-address-in-None.ensures.refused)

pub returns-in_err-address-in-Some-clause-refused :
    goal.returns-in_err-address-in-Some-clause-refused
returns-in_err-address-in-Some-clause-refused c =
    anyway c.from_residual-in_err-address-in-Some.result (no_host c.args.text.now c.in-Some.host.now c.in-Some.bounds.now c.in-Some.ensures.cut (λ address from to is are. c.in_err-address-in-Some.ensures.refused address is))

pub returns-in_err-from-in-Some-clause-refused : goal.returns-in_err-from-in-Some-clause-refused
returns-in_err-from-in-Some-clause-refused c =
    anyway c.from_residual-in_err-from-in-Some.result (no_host c.args.text.now c.in-Some.host.now c.in-Some.bounds.now c.in-Some.ensures.cut (λ address from to is are. c.in_err-from-in-Some.ensures.refused from to are))

pub returns-in_err-address-in-None-clause-fault : goal.returns-in_err-address-in-None-clause-fault
returns-in_err-address-in-None-clause-fault c =
    let out : IfErr c.from_residual.result (λ fault. fault ≡ BadAddress) = search rules in
    on_error c.from_residual.result out (λ fault is. inl (c.in-None.ensures.none, (is, c.in_err-address-in-None.ensures.refused)))

pub returns-in_err-address-in-Some-clause-fault : goal.returns-in_err-address-in-Some-clause-fault
returns-in_err-address-in-Some-clause-fault c =
    let out : IfErr c.from_residual-in_err-address-in-Some.result (λ fault. fault ≡ BadAddress) = search rules in
    on_error c.from_residual-in_err-address-in-Some.result out (λ fault is. inr (c.in-Some.host.now, c.in-Some.bounds.now, c.in-Some.ensures.cut, inl (is, c.in_err-address-in-Some.ensures.refused)))

pub returns-in_err-from-in-Some-clause-fault : goal.returns-in_err-from-in-Some-clause-fault
returns-in_err-from-in-Some-clause-fault c =
    let out : IfErr c.from_residual-in_err-from-in-Some.result (IsBoundsFault c.in-Some.bounds.now) = search rules in
    on_error c.from_residual-in_err-from-in-Some.result out (λ fault is. inr (c.in-Some.host.now, c.in-Some.bounds.now, c.in-Some.ensures.cut, inr is))

use Rattle.std.proofs.Common.{inl, inr, rules}
use Rattle.std.specs.Prelude.{IfErr}
use Rattle.program_lines.proofs.Replies.{on_error}
use Rattle.index.specs.Queries.{IsHostFault}
use Rattle.index.proofs.QueryLemmas.{anyway, no_count_query, no_host_query, no_time_query}
use Rattle.index.proofs.query.query_of.Goals as goal

pub returns-in_err-address-clause-refused : goal.returns-in_err-address-clause-refused
returns-in_err-address-clause-refused c =
    anyway c.from_residual.result (no_host_query c.args.line.now c.in-Some.rest.now c.in-Some.ensures c.in_err-address.ensures.refused)

pub returns-in_err-first-clause-refused : goal.returns-in_err-first-clause-refused
returns-in_err-first-clause-refused c =
    anyway c.from_residual-in_err-first.result (no_time_query c.args.line.now c.in-Some-after.rest.now c.in-Some-after.ensures c.in_err-first.ensures.refused)

pub returns-in_err-host-clause-refused : goal.returns-in_err-host-clause-refused
returns-in_err-host-clause-refused c =
    anyway c.from_residual-in_err-host.result (no_count_query c.args.line.now c.in-Some-after-2.rest.now c.in-Some-after-2.ensures c.in_err-host.ensures.refused)

pub returns-in_err-address-clause-fault : goal.returns-in_err-address-clause-fault
returns-in_err-address-clause-fault c =
    let out : IfErr c.from_residual.result (IsHostFault c.in-Some.rest.now) = search rules in
    on_error c.from_residual.result out (λ fault is. inr (inl (c.in-Some.rest.now, c.in-Some.ensures, is)))

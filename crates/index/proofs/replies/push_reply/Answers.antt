use Rattle.std.proofs.Common.{◌∙◌, ◌++◌, ap, filter, length, refl, subst, sym}
use Rattle.std.specs.Fmt.{decimal}
use Rattle.std.specs.List.{flat_map}
use Rattle.std.proofs.lemmas.List.{length-map}
use Rattle.program_lines.specs.Lines.{line}
use Rattle.index.specs.Keys.{HasTimes}
use Rattle.index.specs.Replies.{host_line, is_timed, is_within, row_line}
use Rattle.index.specs.declared.query.Query.TheVariants.{Host, Time, Hosts, Count, CountHost}
use Rattle.index.proofs.EntryLemmas.{values_of}
use Rattle.index.proofs.KeyLemmas.{same_times}
use Rattle.index.proofs.ReplyLemmas.{appended, reply_first, reply_last, row_of}
use Rattle.index.proofs.replies.push_reply.Goals as goal

pub returns-in_ok-push_rows-in-Host : goal.returns-in_ok-push_rows-in-Host
returns-in_ok-push_rows-in-Host c =
    let rows = values_of c.args.index.now in
    let address = c.in-Host.address in
    let from = c.in-Host.from in
    let to = c.in-Host.to in
    let old = c.args.output.now.items in
    let times : HasTimes (Host address from to) = subst HasTimes c.in-Host.is c.requires.times in
    appended rows c.args.query.now (Host address from to) old c.push_rows.new.output.items (flat_map row_line (filter (is_within address from to) rows)) c.in-Host.is refl
    (c.in_ok-push_rows-in-Host.ensures ∙ ap (λ shown. old ++ flat_map row_line shown) (c.rows_of_host-rows.ensures ∙ same_times (λ f t. filter (is_within address f t) rows) from to times))

pub returns-in_ok-push_timed-in-Time : goal.returns-in_ok-push_timed-in-Time
returns-in_ok-push_timed-in-Time c =
    let rows = values_of c.args.index.now in
    let from = c.in-Time.from in
    let to = c.in-Time.to in
    let old = c.args.output.now.items in
    let times : HasTimes (Time from to) = subst HasTimes c.in-Time.is c.requires.times in
    appended rows c.args.query.now (Time from to) old c.push_timed.new.output.items (flat_map row_line (filter (is_timed from to) rows)) c.in-Time.is refl
    (c.in_ok-push_timed-in-Time.ensures ∙ same_times (λ f t. old ++ flat_map row_line (filter (is_timed f t) rows)) from to times)

pub returns-in_ok-push_hosts-in-Hosts : goal.returns-in_ok-push_hosts-in-Hosts
returns-in_ok-push_hosts-in-Hosts c =
    let (hosts, are, pushed) = c.in_ok-push_hosts-in-Hosts.ensures in
    appended (values_of c.args.index.now) c.args.query.now Hosts c.args.output.now.items c.push_hosts.new.output.items (flat_map host_line hosts) c.in-Hosts.is (hosts, are, refl) pushed

pub returns-in_ok-push_end-in-First : goal.returns-in_ok-push_end-in-First
returns-in_ok-push_end-in-First c =
    reply_first c.args.index.now c.args.query.now c.args.output.now.items c.push_end.new.output.items c.first_key_value.result c.in_ok-push_end-in-First.ensures c.in-First.is c.first_key_value.ensures.first

pub returns-in_ok-push_end-in-Last : goal.returns-in_ok-push_end-in-Last
returns-in_ok-push_end-in-Last c =
    reply_last c.args.index.now c.args.query.now c.args.output.now.items c.push_end-in-Last.new.output.items c.last_key_value.result c.in_ok-push_end-in-Last.ensures c.in-Last.is c.last_key_value.ensures.last

pub returns-in_ok-push_number-in-Count : goal.returns-in_ok-push_number-in-Count
returns-in_ok-push_number-in-Count c =
    let rows = values_of c.args.index.now in
    let old = c.args.output.now.items in
    appended rows c.args.query.now Count old c.push_number.new.output.items (line (decimal (length rows))) c.in-Count.is refl
    (c.in_ok-push_number-in-Count.ensures ∙ ap (λ n. old ++ line (decimal n)) (c.len.ensures.len ∙ sym (length-map c.args.index.now (row_of c.args.index.now))))

pub returns-in_ok-push_number-in-CountHost : goal.returns-in_ok-push_number-in-CountHost
returns-in_ok-push_number-in-CountHost c =
    let rows = values_of c.args.index.now in
    let address = c.in-CountHost.address in
    let from = c.in-CountHost.from in
    let to = c.in-CountHost.to in
    let old = c.args.output.now.items in
    let times : HasTimes (CountHost address from to) = subst HasTimes c.in-CountHost.is c.requires.times in
    appended rows c.args.query.now (CountHost address from to) old c.push_number-in-CountHost.new.output.items (line (decimal (length (filter (is_within address from to) rows)))) c.in-CountHost.is refl
    (c.in_ok-push_number-in-CountHost.ensures ∙ ap (λ n. old ++ line (decimal n)) (c.count_of_host.ensures ∙ same_times (λ f t. length (filter (is_within address f t) rows)) from to times))

use Rattle.std.proofs.Common.{◌≡◌, ◌∙◌, ◌++◌, Some, append-nil, ap, filter, sym}
use Rattle.std.specs.List.{flat_map}
use Rattle.index.specs.Replies.{is_within, row_line}
use Rattle.index.proofs.EntryLemmas.{values_of}
use Rattle.index.proofs.HostLemmas.{all_passed, fewer_after, is_passed, none_passed, timed_more}
use Rattle.index.proofs.KeyLemmas.{same_times}
use Rattle.index.proofs.RowLemmas.{rows_ascend}
use Rattle.index.proofs.replies.push_timed.Goals as goal

pub loop-address-init : goal.loop-address-init
loop-address-init c =
    let rows = values_of c.args.index.now in
    let start = c.args.output.now.items in
    let ascending = rows_ascend c.args.index.now c.requires.keyed c.len-count.ensures.ordered in
    sym (ap (λ passed. start ++ flat_map row_line passed) (none_passed rows ascending c.args.from c.args.to) ∙ append-nil start)

pub loop-address-preserved : goal.loop-address-preserved
loop-address-preserved c =
    let rows = values_of c.args.index.now in
    let host = c.in-Some.address in
    let start = c.args.output.now.items in
    let from = c.args.from in
    let to = c.args.to in
    let ascending = rows_ascend c.args.index.now c.requires.keyed c.len-count.ensures.ordered in
    let are : values_of c.rows_of_host.result ≡ filter (is_within host from to) rows = c.rows_of_host.ensures ∙ same_times (λ f t. filter (is_within host f t) rows) from to (c.ranges.from, c.ranges.to) in
    let told : c.loop-address.output.items ≡ start ++ flat_map row_line (filter (is_passed from to c.loop-address.last) rows) = c.loop-address.invariant ∙ same_times (λ f t. start ++ flat_map row_line (filter (is_passed f t c.loop-address.last) rows)) from to (c.ranges.from, c.ranges.to) in
    timed_more rows ascending from to c.loop-address.last host c.in-Some.ensures (values_of c.rows_of_host.result) start c.loop-address.output.items c.push_rows.new.output.items are told c.in_ok-push_rows.ensures
    ∙ sym (same_times (λ f t. start ++ flat_map row_line (filter (is_passed f t (Some host)) rows)) from to (c.ranges.from, c.ranges.to))

pub loop-address-smaller : goal.loop-address-smaller
loop-address-smaller c = fewer_after (values_of c.args.index.now) c.loop-address.last c.in-Some.address c.in-Some.ensures

pub returns : goal.returns
returns c =
    let rows = values_of c.args.index.now in
    let start = c.args.output.now.items in
    let from = c.args.from in
    let to = c.args.to in
    let ascending = rows_ascend c.args.index.now c.requires.keyed c.len-count.ensures.ordered in
    let told : c.loop-address.output.items ≡ start ++ flat_map row_line (filter (is_passed from to c.loop-address.last) rows) = c.loop-address.invariant ∙ same_times (λ f t. start ++ flat_map row_line (filter (is_passed f t c.loop-address.last) rows)) from to (c.ranges.from, c.ranges.to) in
    told ∙ ap (λ passed. start ++ flat_map row_line passed) (all_passed rows ascending from to c.loop-address.last c.in_default.ensures)

use Rattle.std.proofs.Common.{◌≡◌, ◌∙◌, ◌<◌, ◌^◌, ap, arith, filter, inl, length, refl, rules, sym}
use Rattle.std.specs.Prelude.{not}
use Rattle.std.proofs.lemmas.Iterator.Consumers.{YieldsList-from_first, count_from_yields_List}
use Rattle.std.proofs.lemmas.List.{length-map}
use Rattle.std.proofs.lemmas.List.Filters.{length-filter_both}
use Rattle.index.specs.Replies.{is_within}
use Rattle.index.proofs.EntryLemmas.{values_of}
use Rattle.index.proofs.KeyLemmas.{same_times}
use Rattle.index.proofs.searches.count_of_host.Goals as goal

pub count-requires-clause-fits : goal.count-requires-clause-fits
count-requires-clause-fits c =
    let rows = values_of c.args.index.now in
    let asked = is_within c.args.address c.args.from c.args.to in
    let fits : length c.args.index.now < 2 ^ 64 = search rules in
    let many : length c.rows_of_host.result ≡ length (filter asked rows) =
    sym (length-map c.rows_of_host.result (λ entry. entry.1)) ∙ ap length c.rows_of_host.ensures ∙ same_times (λ f t. length (filter (is_within c.args.address f t) rows)) c.args.from c.args.to (c.ranges.from, c.ranges.to) in
    inl (omega (arith, many, length-filter_both asked (λ row. not (asked row)) (λ row. refl) rows, length-map c.args.index.now (λ entry. entry.1), fits))

pub returns : goal.returns
returns c =
    let many : c.count.result ≡ length c.rows_of_host.result = count_from_yields_List _ c.count.result c.count.ensures.ran (YieldsList-from_first _ (λ rest. rest) c.rows_of_host.result refl) in
    many ∙ sym (length-map c.rows_of_host.result (λ entry. entry.1)) ∙ ap length c.rows_of_host.ensures
    ∙ same_times (λ f t. length (filter (is_within c.args.address f t) (values_of c.args.index.now))) c.args.from c.args.to (c.ranges.from, c.ranges.to)

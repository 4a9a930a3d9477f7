use Rattle.std.proofs.Common.{◌≡◌, ◌∙◌, None, Some, ap, filter, refl, subst, sym}
use Rattle.index.specs.Searches.{IsNextHost, is_after}
use Rattle.index.proofs.EntryLemmas.{values_of}
use Rattle.index.proofs.HostLemmas.{next_is}
use Rattle.index.proofs.ListLemmas.{all_pass}
use Rattle.index.proofs.ReplyLemmas.{first_host}
use Rattle.index.proofs.RowLemmas.{rows_above, rows_ascend}
use Rattle.index.proofs.searches.next_host.Goals as goal

pub returns-in-None : goal.returns-in-None
returns-in-None c =
    let entries = c.args.index.now in
    let rows = values_of entries in
    let ascending = rows_ascend entries c.requires.keyed c.first_key_value.ensures.ordered in
    let all = filter (λ row. is_after None row.reading.address) rows in
    let same : rows ≡ all = sym (all_pass (λ row. is_after None row.reading.address) rows (λ row. refl)) in
    subst (λ last. IsNextHost rows last c.host_of.result) (sym c.in-None.is)
    (next_is rows ascending None c.host_of.result (first_host entries all c.first_key_value.result c.host_of.result c.host_of.ensures c.first_key_value.ensures.first same))

pub returns-in-Some : goal.returns-in-Some
returns-in-Some c =
    let entries = c.args.index.now in
    let rows = values_of entries in
    let address = c.in-Some.address in
    let ascending = rows_ascend entries c.requires.keyed c.lower_bound-gap.ensures.ordered in
    let above = filter (λ row. is_after (Some address) row.reading.address) rows in
    let same : values_of c.lower_bound-gap.result.1 ≡ above = ap values_of c.lower_bound-gap.ensures.after ∙ rows_above entries address c.requires.keyed in
    subst (λ last. IsNextHost rows last c.host_of-in-Some.result) (sym c.in-Some.is)
    (next_is rows ascending (Some address) c.host_of-in-Some.result (first_host c.lower_bound-gap.result.1 above c.peek_next.result c.host_of-in-Some.result c.host_of-in-Some.ensures c.peek_next.ensures same))

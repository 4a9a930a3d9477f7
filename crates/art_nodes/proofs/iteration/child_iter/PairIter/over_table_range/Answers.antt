use Rattle.std.proofs.Common.{◌≤◌, length, sym, ◌∙◌, ap, arith}
use Rattle.art_nodes.specs.ChildMap.{table_children}
use Rattle.art_nodes.specs.PairSources.{first_byte}
use Rattle.art_nodes.proofs.RangeLemmas.{pairs_between, within-between, table-between}
use Rattle.art_nodes.proofs.TableLemmas.{above-table}
use Rattle.art_nodes.proofs.iteration.child_iter.PairIter.over_table_range.Goals as goal

pub returns : goal.returns
returns g c =
    let places = c.args.table.now in
    let bytes = c.byte_range in
    let fits : length places ≤ 256 = omega (arith, c.pairs_within.ensures.all_places) in
    c.pairs_within.ensures.within
    ∙ table-between bytes.result.start bytes.result.end places bytes.ensures.ordered fits
    ∙ ap (λ n. pairs_between (table_children 0 places) n bytes.result.end) bytes.ensures.first
    ∙ ap (λ n. pairs_between (table_children 0 places) (first_byte c.args.start) n) bytes.ensures.end
    ∙ sym (within-between 0 (table_children 0 places) c.args.start c.args.end (above-table 0 places (omega (arith, fits))))

use Rattle.std.proofs.Common.{◌∙◌, ap, filter}
use Rattle.std.specs.BTreeMap.Range.{is_from_start}
use Rattle.std.specs.Ordering.{nat_cmp}
use Rattle.art_c_maps.specs.Entries.{entries_from}
use Rattle.art_c_maps.proofs.LimitLemmas.{and-true}
use Rattle.art_c_maps.proofs.number_map.NumberMap.from.Goals as goal

pub returns : goal.returns
returns c =
    c.range.ensures.between tt
    ∙ (λ i. filter (λ entry. (and-true (is_from_start nat_cmp c.bound_at.result entry.0) ∙ c.bound_at.ensures.start entry.0) i) c.self.inside.entries)
    ∙ ap (entries_from nat_cmp c.args.inclusive c.args.key) c.self.view_is

use Rattle.std.proofs.Common.{◌∙◌, ap, filter}
use Rattle.std.specs.Ordering.{nat_cmp}
use Rattle.art_c_maps.specs.Entries.{entries_to}
use Rattle.art_c_maps.proofs.number_map.NumberMap.up_to.Goals as goal

pub returns : goal.returns
returns c =
    c.range.ensures.between tt ∙ (λ i. filter (λ entry. c.bound_at.ensures.end entry.0 i) c.self.inside.entries)
    ∙ ap (entries_to nat_cmp c.args.inclusive c.args.key) c.self.view_is

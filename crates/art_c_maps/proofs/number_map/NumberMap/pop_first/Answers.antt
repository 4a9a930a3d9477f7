use Rattle.std.proofs.Common.{◌∙◌, drop, ap}
use Rattle.art_c_maps.specs.Entries.{first_of}
use Rattle.art_c_maps.proofs.FoundLemmas.{removed-first}
use Rattle.art_c_maps.proofs.number_map.NumberMap.pop_first.Goals as goal

pub returns : goal.returns
returns c =
    let both = removed-first c.pop_first.result c.self.inside.entries c.pop_first.new.self c.pop_first.ensures.removal c.pop_first.ensures.none c.pop_first.ensures.unchanged in
    record { removed = both.0 ∙ ap first_of c.self.view_is; entries = both.1 ∙ ap (drop 1) c.self.view_is }

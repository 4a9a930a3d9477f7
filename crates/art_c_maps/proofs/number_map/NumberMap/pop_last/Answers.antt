use Rattle.std.proofs.Common.{◌∙◌, take, length, ◌-◌, ap}
use Rattle.art_c_maps.specs.Entries.{last_of}
use Rattle.art_c_maps.proofs.FoundLemmas.{removed-last}
use Rattle.art_c_maps.proofs.number_map.NumberMap.pop_last.Goals as goal

pub returns : goal.returns
returns c =
    let both = removed-last c.pop_last.result c.self.inside.entries c.pop_last.new.self c.pop_last.ensures.removal c.pop_last.ensures.none c.pop_last.ensures.unchanged in
    record { removed = both.0 ∙ ap last_of c.self.view_is; entries = both.1 ∙ ap (λ seen. take (length seen - 1) seen) c.self.view_is }

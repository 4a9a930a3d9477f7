use Rattle.std.proofs.Common.{◌∙◌, ap}
use Rattle.art_c_maps.specs.Entries.{first_of}
use Rattle.art_c_maps.proofs.FoundLemmas.{first-yielded}
use Rattle.art_c_maps.proofs.number_map.NumberMap.next.Goals as goal

pub returns : goal.returns
returns c = c.entry_of.ensures ∙ first-yielded c.next.result c.from.result c.next.new.self _ c.next.ensures.steps ∙ ap first_of c.from.ensures

use Rattle.std.proofs.Common.{◌∙◌, ap}
use Rattle.art_c_maps.specs.Entries.{last_of}
use Rattle.art_c_maps.proofs.FoundLemmas.{last-yielded}
use Rattle.art_c_maps.proofs.number_map.NumberMap.previous.Goals as goal

pub returns : goal.returns
returns c = c.entry_of.ensures ∙ last-yielded c.next_back.result c.up_to.result c.next_back.new.self _ c.next_back.ensures.steps ∙ ap last_of c.up_to.ensures

use Rattle.art_tree.proofs.SharedLemmas.LoadedTexts.{loaded-texts}
use Rattle.art_tree.proofs.laws.a_loaded_tree_has_the_texts_of_its_entries.Goals as goal

pub returns : goal.returns
returns g c = λ old new entries root tree is. loaded-texts g.K.AsBytes.text new old entries root tree is

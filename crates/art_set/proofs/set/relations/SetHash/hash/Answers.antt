use Rattle.std.proofs.Common.{◌∙◌, ap}
use Rattle.std.specs.Hash as fed
use Rattle.art_set.proofs.KeyOrders.{fed-keys}
use Rattle.art_set.proofs.set.relations.SetHash.hash.Goals as goal

pub returns : goal.returns
returns g c = fed.fed_along _ _ _ (fed-keys g.K.Hash.hash_input c.self.inside.entries ∙ ap (fed.slice g.K.Hash.hash_input) c.self.view_is) c.hash.ensures

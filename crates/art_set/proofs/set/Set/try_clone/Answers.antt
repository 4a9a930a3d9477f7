use Rattle.std.proofs.Common.{◌∙◌, subst}
use Rattle.std.specs.List.{AllZip}
use Rattle.std.specs.Map.{keys_of}
use Rattle.art_set.proofs.KeyOrders.{cloned-keys}
use Rattle.art_set.proofs.ListLemmas.{no-entries}
use Rattle.art_set.proofs.set.Set.try_clone.Goals as goal

pub returns-in-Ok-clause-clones : goal.returns-in-Ok-clause-clones
returns-in-Ok-clause-clones g c =
    subst (λ keys. AllZip g.K.Clone.is_clone keys (keys_of c.in-Ok.entries)) c.self.view_is
    (cloned-keys g.K.Clone.is_clone _ c.self.inside.entries c.in-Ok.entries c.in-Ok.ensures.clones)

pub returns-in-Err-clause-some_keys : goal.returns-in-Err-clause-some_keys
returns-in-Err-clause-some_keys g c = λ none. c.in-Err.ensures.some_entries (no-entries c.self.inside.entries (c.self.view_is ∙ none))

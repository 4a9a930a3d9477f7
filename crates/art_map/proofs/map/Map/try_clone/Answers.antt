use Rattle.std.proofs.Common.{IfOk, subst}
use Rattle.std.specs.List.{AllZip}
use Rattle.art_map.proofs.map.Map.try_clone.Goals as goal

pub returns-clause-clones : goal.returns-clause-clones
returns-clause-clones g c =
    subst (λ entries. IfOk c.clones_of.result (λ map. AllZip (λ p q. g.K.Clone.is_clone p.0 q.0 × g.V.Clone.is_clone p.1 q.1) entries map))
    c.iter.ensures.entries c.clones_of.ensures

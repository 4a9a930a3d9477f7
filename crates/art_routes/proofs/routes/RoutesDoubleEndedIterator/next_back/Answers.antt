use Rattle.art_routes.proofs.LeafNames.{[], ap, rules, run_entries, sym, ◌++◌, ◌∙◌, ◌∷◌, ◌≡◌}
use Rattle.art_routes.proofs.routes.RoutesDoubleEndedIterator.next_back.Goals as goal

pub returns-clause-steps : goal.returns-clause-steps
returns-clause-steps g c =
    let rest = run_entries c.self.inside.arena.now c.take-rest.result.2 in
    let taken : c.args.self.now ≡ rest ++ (c.take-rest.result.0.now, c.take-rest.result.1.now) ∷ [] = search rules in
    taken ∙ ap (λ network. rest ++ (network, c.take-rest.result.1.now) ∷ []) (sym c.network_from.ensures.network)

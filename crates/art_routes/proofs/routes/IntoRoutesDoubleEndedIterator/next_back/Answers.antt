use Rattle.art_routes.proofs.LeafNames.{[], ap, rules, run_entries, sym, ◌++◌, ◌∙◌, ◌∷◌, ◌≡◌}
use Rattle.art_routes.proofs.routes.IntoRoutesDoubleEndedIterator.next_back.Goals as goal

pub returns-clause-steps : goal.returns-clause-steps
returns-clause-steps g c =
    let rest = run_entries c.take_out-key.new.arena c.take_out-key.result.1 in
    let taken : c.args.self.now ≡ rest ++ c.take_out-key.result.0 ∷ [] = search rules in
    taken ∙ ap (λ network. rest ++ (network, c.take_out-key.result.0.1) ∷ []) (sym c.network_from.ensures.network)

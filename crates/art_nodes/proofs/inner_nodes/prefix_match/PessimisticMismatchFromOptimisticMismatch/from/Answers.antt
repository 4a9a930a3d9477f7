use Rattle.art_nodes.proofs.inner_nodes.prefix_match.PessimisticMismatchFromOptimisticMismatch.from.Goals as goal

pub returns : goal.returns
returns c = search

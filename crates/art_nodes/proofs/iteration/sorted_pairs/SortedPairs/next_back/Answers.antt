use Rattle.std.proofs.Common.{◌≡◌, ◌+◌, length, sym, ◌∙◌, ap, arith}
use Rattle.std.specs.List.{zip}
use Rattle.art_nodes.proofs.PairLemmas.{zip-last}
use Rattle.art_nodes.proofs.iteration.sorted_pairs.SortedPairs.next_back.Goals as goal

pub returns : goal.returns
returns g c =
    let parts = c.in_ok-key.ensures in
    let children = c.self.inside.children.now in
    let same : length children ≡ length c.in_ok-key.keys.now + 1 = omega (arith, parts.cases.1, c.self.invariant) in
    sym c.self.view_is
    ∙ ap (λ bytes. zip bytes children) parts.cases.0
    ∙ zip-last c.in_ok-key.keys.now children c.in_ok-key.key.now _ same

use Rattle.std.proofs.Common.{◌≡◌, ◌+◌, ◌-◌, length, drop, sym, ◌∙◌, ap, arith}
use Rattle.std.proofs.lemmas.List.{take_rest, length-drop}
use Rattle.std.specs.List.{zip}
use Rattle.art_nodes.proofs.PairLemmas.{zip-first}
use Rattle.art_nodes.proofs.iteration.sorted_pairs.SortedPairs.next.Goals as goal

pub invariant_of-self : goal.invariant_of-self
invariant_of-self g c =
    let cut = ap length (take_rest c.self.inside.children.now 1) in
    omega (arith, cut, length-drop 1 c.self.inside.children.now, c.in_ok-key.ensures.cases.1, c.self.invariant)

pub returns : goal.returns
returns g c =
    let children = c.self.inside.children.now in
    let parts = c.in_ok-key.ensures in
    let same : length children ≡ length c.in_ok-key.keys.now + 1 = omega (arith, parts.cases.1, c.self.invariant) in
    sym c.self.view_is
    ∙ ap (λ bytes. zip bytes children) parts.cases.0
    ∙ zip-first c.in_ok-key.key.now c.in_ok-key.keys.now children _ same

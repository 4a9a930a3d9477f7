use Rattle.std.proofs.Common.{◌≡◌, ◌∙◌, [], sym}
use Rattle.art_set.specs.Walks.{walk}
use Rattle.art_set.proofs.WalkLemmas.{first-untaken}
use Rattle.art_set.proofs.set.merging.MergedIterator.next.Goals as goal

pub returns-then-not-self-2-clause-steps : goal.returns-then-not-self-2-clause-steps
returns-then-not-self-2-clause-steps g c =
    let none : walk g.K.KeyBytes.order c.walk.self-inside.in_left c.walk.self-inside.in_both c.walk.self-inside.in_right c.walk.self-inside.left c.walk.self-inside.right ≡ [] =
    rw (c.if-not-self-2.true, c.in_default-peek.ensures) (first-untaken g.K.KeyBytes.order c.walk.self-inside.in_both c.walk.self-inside.in_right c.walk.self-inside.left) in
    (sym c.self.view_is ∙ sym c.walk.invariant.0 ∙ none, none)

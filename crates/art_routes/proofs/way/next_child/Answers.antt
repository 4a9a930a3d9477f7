use Rattle.std.proofs.Common.{IfNone, subst, sym}
use Rattle.art_arena.specs.InnerRef.{inner_shown}
use Rattle.art_routes.specs.Ends.{HasChild, NoEndOf}
use Rattle.art_routes.proofs.way.next_child.Goals as goal

pub returns-in-Node4-clause-none : goal.returns-in-Node4-clause-none
returns-in-Node4-clause-none g c =
    subst (λ node. IfNone c.last_sorted.result (NoEndOf (HasChild (inner_shown node).children) c.args.longest)) (sym c.in-Node4.is) c.last_sorted.ensures.none

pub returns-in-Node16-clause-none : goal.returns-in-Node16-clause-none
returns-in-Node16-clause-none g c =
    subst (λ node. IfNone c.last_sorted-in-Node16.result (NoEndOf (HasChild (inner_shown node).children) c.args.longest)) (sym c.in-Node16.is) c.last_sorted-in-Node16.ensures.none

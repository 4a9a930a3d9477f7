use Rattle.std.proofs.Common.{◌∙◌, IfNone, IfSome, sym, subst}
use Rattle.art_routes.specs.Ends.{HasChild, IsNextChild, NoEndOf}
use Rattle.art_routes.proofs.EndLemmas.{next-of-bytes, none-is, none-of-bytes}
use Rattle.art_routes.proofs.way.last_sorted.Goals as goal

pub returns-in_err-end-clause-none : goal.returns-in_err-end-clause-none
returns-in_err-end-clause-none g c =
    none-is c.from_residual.result
    (none-of-bytes c.args.node.now.children c.initialized_portion.result.0.now c.initialized_portion.ensures.bytes c.args.longest c.in_err-end.ensures.none)

pub returns-clause-none : goal.returns-clause-none
returns-clause-none g c =
    let children = c.args.node.now.children in
    let next = next-of-bytes children c.initialized_portion.result.0.now c.initialized_portion.ensures.bytes c.args.longest c.in_ok-end.end c.in_ok-end.ensures.some in
    subst (λ found. IfNone found (NoEndOf (HasChild children) c.args.longest)) (sym (c.lookup_child.ensures.child ∙ next.holds.1)) tt

pub returns-clause-some : goal.returns-clause-some
returns-clause-some g c =
    let children = c.args.node.now.children in
    let next = next-of-bytes children c.initialized_portion.result.0.now c.initialized_portion.ensures.bytes c.args.longest c.in_ok-end.end c.in_ok-end.ensures.some in
    subst (λ found. IfSome found (IsNextChild children c.args.longest)) (sym (c.lookup_child.ensures.child ∙ next.holds.1)) (c.in_ok-end.end, next, next.holds.1)

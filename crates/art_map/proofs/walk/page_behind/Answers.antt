use Rattle.std.proofs.Common.{subst}
use Rattle.art_map.proofs.WalkLemmas.{first-at, next-at}
use Rattle.art_map.specs.Walk.{ArePagesUpTo}
use Rattle.art_map.proofs.walk.page_behind.Goals as goal

pub returns-in-Some : goal.returns-in-Some
returns-in-Some g c = λ seen rest up_to.
    let arena = c.args.tree.now.arena in
    next-at arena c.in-Some.leaf c.next_page.result c.next_page.ensures seen rest (subst (λ last. ArePagesUpTo arena last seen rest) c.in-Some.is up_to)

pub returns-in-None : goal.returns-in-None
returns-in-None g c = λ seen rest up_to.
    let arena = c.args.tree.now.arena in
    first-at arena c.first_page.result c.first_page.ensures seen rest (subst (λ last. ArePagesUpTo arena last seen rest) c.in-None.is up_to)

use Rattle.std.proofs.Common.{◌≡◌, ◌∙◌, AllPairs, Contains, ap, subst, sym}
use Rattle.std.specs.declared.cmp.Ordering.TheVariants.{Less}
use Rattle.art_routes.specs.FreeNetworks.{BeginsBehind, IsFree}
use Rattle.art_routes.specs.FreeWalks.{IsFreeWalk, free_left}
use Rattle.art_routes.specs.Keys.{last_network}
use Rattle.art_routes.specs.Networks.{network_order}
use Rattle.art_routes.proofs.FreeLemmas.{free-is-next, next-ascends, next-is-free, next-walks}
use Rattle.art_routes.proofs.free.RouteTable+V.free_after.Goals as goal

pub invariant_of-result : goal.invariant_of-result
invariant_of-result g c =
    let network = c.args.network.now in
    let next = c.next_inside.result in
    let last : c.parts.result.0.bits ≡ (last_network network).address.bits = ap (λ a. a.bits) c.parts.ensures.address ∙ ap (λ n. n.address.bits) c.last_of.ensures.last in
    subst (λ l. IsFreeWalk l next) (sym last)
    (next-walks c.args.self.now network c.next_inside.ensures.network c.args.length c.args.after.now c.next_inside.ensures.after (sym c.if-not-covers.ensures) next c.next_inside.ensures.next)

pub returns-clause-order : goal.returns-clause-order
returns-clause-order g c =
    let network = c.args.network.now in
    let next = c.next_inside.result in
    let last : c.parts.result.0.bits ≡ (last_network network).address.bits = ap (λ a. a.bits) c.parts.ensures.address ∙ ap (λ n. n.address.bits) c.last_of.ensures.last in
    subst (λ l. AllPairs (λ a b. network_order a b ≡ Less) (free_left c.args.self.now l next)) (sym last)
    (next-ascends c.args.self.now network c.next_inside.ensures.network c.args.length c.args.after.now c.next_inside.ensures.after (sym c.if-not-covers.ensures) next c.next_inside.ensures.next)

pub returns-clause-exactly : goal.returns-clause-exactly
returns-clause-exactly g c = λ part.
    let network = c.args.network.now in
    let next = c.next_inside.result in
    let after = c.args.after.now in
    let last : c.parts.result.0.bits ≡ (last_network network).address.bits = ap (λ a. a.bits) c.parts.ensures.address ∙ ap (λ n. n.address.bits) c.last_of.ensures.last in
    subst (λ l. (Contains (free_left c.args.self.now l next) part → IsFree c.args.self.now network c.args.length part × BeginsBehind after part) × (IsFree c.args.self.now network c.args.length part × BeginsBehind after part → Contains (free_left c.args.self.now l next) part)) (sym last) (
      next-is-free c.args.self.now network c.next_inside.ensures.network c.args.length after c.next_inside.ensures.after (sym c.if-not-covers.ensures) next c.next_inside.ensures.next part,
      free-is-next c.args.self.now network c.next_inside.ensures.network c.args.length after c.next_inside.ensures.after (sym c.if-not-covers.ensures) next c.next_inside.ensures.next part,
    )

use Rattle.std.proofs.Common.{◌≡◌, ◌∙◌, AllPairs, Contains, ap, subst, sym}
use Rattle.std.specs.declared.cmp.Ordering.TheVariants.{Less}
use Rattle.art_routes.specs.FreeNetworks.{IsFree}
use Rattle.art_routes.specs.FreeWalks.{IsFreeWalk, free_left}
use Rattle.art_routes.specs.Keys.{last_network}
use Rattle.art_routes.specs.Networks.{network_order}
use Rattle.art_routes.proofs.FreeLemmas.{free-is-walked, walk-ascends, walk-is-free, walk-starts}
use Rattle.art_routes.proofs.free.RouteTable+V.free.Goals as goal

pub invariant_of-result : goal.invariant_of-result
invariant_of-result g c =
    let network = c.args.network.now in
    let next = c.first_inside.result in
    let last : c.parts.result.0.bits ≡ (last_network network).address.bits = ap (λ a. a.bits) c.parts.ensures.address ∙ ap (λ n. n.address.bits) c.last_of.ensures.last in
    subst (λ l. IsFreeWalk l next) (sym last) (walk-starts c.args.self.now network c.first_inside.ensures.network c.args.length next c.first_inside.ensures.first)

pub returns-clause-order : goal.returns-clause-order
returns-clause-order g c =
    let network = c.args.network.now in
    let next = c.first_inside.result in
    let last : c.parts.result.0.bits ≡ (last_network network).address.bits = ap (λ a. a.bits) c.parts.ensures.address ∙ ap (λ n. n.address.bits) c.last_of.ensures.last in
    subst (λ l. AllPairs (λ a b. network_order a b ≡ Less) (free_left c.args.self.now l next)) (sym last)
    (walk-ascends c.args.self.now network c.first_inside.ensures.network c.args.length next c.first_inside.ensures.first)

pub returns-clause-exactly : goal.returns-clause-exactly
returns-clause-exactly g c = λ part.
    let network = c.args.network.now in
    let next = c.first_inside.result in
    let last : c.parts.result.0.bits ≡ (last_network network).address.bits = ap (λ a. a.bits) c.parts.ensures.address ∙ ap (λ n. n.address.bits) c.last_of.ensures.last in
    subst (λ l. (Contains (free_left c.args.self.now l next) part → IsFree c.args.self.now network c.args.length part) × (IsFree c.args.self.now network c.args.length part → Contains (free_left c.args.self.now l next) part)) (sym last) (
      walk-is-free c.args.self.now network c.first_inside.ensures.network c.args.length next c.first_inside.ensures.first part,
      free-is-walked c.args.self.now network c.first_inside.ensures.network c.args.length next c.first_inside.ensures.first part,
    )

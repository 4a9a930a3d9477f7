use Rattle.std.proofs.Common.{◌≢◌, IfSome, length, arith, subst}
use Rattle.art_c_routes.specs.Available.{AreAvailable}
use Rattle.art_c_routes.proofs.AvailableLemmas.{all-available, behind-available}
use Rattle.art_c_routes.proofs.number_routes.NumberRoutes.available.Goals as goal

pub returns-then-after-eq0-clause-available : goal.returns-then-after-eq0-clause-available
returns-then-after-eq0-clause-available c =
    subst (λ routes. AreAvailable routes c.args.network.now c.args.length c.args.after.now c.free.result) c.self.view_is
    (all-available c.self.inside.table c.args.network.now c.args.length c.args.after.now c.free.result c.if-after-eq0.true c.free.ensures.order c.free.ensures.exactly)

pub returns-clause-available : goal.returns-clause-available
returns-clause-available c =
    let some : length c.args.after.now ≢ 0 = λ zero. absurd (omega (arith, zero, c.if-after-eq0.false)) in
    subst (λ routes. IfSome c.free_after.result (AreAvailable routes c.args.network.now c.args.length c.args.after.now)) c.self.view_is
    (behind-available c.self.inside.table c.args.network.now c.args.length c.args.after.now c.in_ok-place.place c.free_after.result some c.in_ok-place.ensures.some c.free_after.ensures.order c.free_after.ensures.exactly)

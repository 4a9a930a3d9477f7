use Rattle.std.proofs.Common.{◌^◌, ◌≤◌, arith}
use Rattle.std.proofs.Math.Nat.{pow-le-pow_right}
use Rattle.art_routes.proofs.network.ones.Goals as goal

pub pow-requires : goal.pow-requires
pow-requires c =
    let small : c.from.result ≤ 127 = omega arith in
    let most : 2 ^ c.from.result ≤ 2 ^ 127 = pow-le-pow_right {n = 2} (omega arith) {i = c.from.result} {j = 127} small in
    omega (arith, most)

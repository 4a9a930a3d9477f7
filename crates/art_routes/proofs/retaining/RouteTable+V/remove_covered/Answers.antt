use Rattle.std.proofs.Common.{arith}
use Rattle.art_routes.proofs.RemovalLemmas.{many-gone, no-more}
use Rattle.art_routes.proofs.retaining.RouteTable+V.remove_covered.Goals as goal

pub overflow_sub-result : goal.overflow_sub-result
overflow_sub-result g c =
    let fewer = no-more c.args.network.now c.args.self.now c.remove_each.new.self c.in_ok-remove_each.ensures.routes in
    omega (arith, fewer, c.len-count.ensures, c.len.ensures)

pub returns-clause-count : goal.returns-clause-count
returns-clause-count g c =
    let many = many-gone c.args.network.now c.args.self.now c.remove_each.new.self c.in_ok-remove_each.ensures.routes in
    omega (arith, many, c.len-count.ensures, c.len.ensures)

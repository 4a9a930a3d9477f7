use Rattle.std.proofs.Common.{◌≡◌, length, arith}
use Rattle.routes.proofs.LineLemmas.{no_space, no_next_hop, no_network}
use Rattle.routes.proofs.route.NetworkFromLineFault.from_line.Goals as goal

pub returns-in_default-clause-refused : goal.returns-in_default-clause-refused
returns-in_default-clause-refused c = no_space c.args.line.now c.in_default.ensures.none

pub returns-then-is_empty-clause-refused : goal.returns-then-is_empty-clause-refused
returns-then-is_empty-clause-refused c =
    let test = c.if-is_empty.ensures in
    let none : length c.in-Some.next_hop.now ≡ 0 = grind (arith, test) in
    no_next_hop c.args.line.now c.in-Some.text.now c.in-Some.next_hop.now c.in-Some.ensures.cut none

pub returns-in-Err-clause-refused : goal.returns-in-Err-clause-refused
returns-in-Err-clause-refused c = no_network c.args.line.now c.in-Some.text.now c.in-Some.next_hop.now c.in-Some.ensures.cut c.in-Err.ensures.network

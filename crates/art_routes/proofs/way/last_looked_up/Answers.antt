use Rattle.std.proofs.Common.{◌≡◌, ◌∙◌, Some, suc, arith, sym}
use Rattle.art_nodes.specs.ChildMap.{child_at}
use Rattle.art_arena.specs.InnerRef.{inner_shown}
use Rattle.art_routes.specs.Ends.{HasChild}
use Rattle.art_routes.proofs.EndLemmas.{first-further, has-none, none-further, one-further, one-less, shorter-less, shorter-none}
use Rattle.art_routes.proofs.way.last_looked_up.Goals as goal

pub down-init : goal.down-init
down-init g c = record { fewer = 0; is = shorter-none c.args.longest; fits = c.ranges.longest.fits; first = λ other less there. absurd (omega (arith, less)) }

pub returns-in-Some-clause-some : goal.returns-in-Some-clause-some
returns-in-Some-clause-some g c =
    let i = c.down.invariant in
    let is : child_at (inner_shown c.args.node.now).children c.down.end ≡ Some c.in-Some.child = sym c.lookup_child.ensures.child ∙ c.in-Some.is in
    (c.down.end, record { fewer = i.fewer; is = i.is; holds = (c.in-Some.child, is); first = i.first }, is)

pub returns-then-end-eq0-clause-none : goal.returns-then-end-eq0-clause-none
returns-then-end-eq0-clause-none g c =
    let i = c.down.invariant in
    let children = (inner_shown c.args.node.now).children in
    none-further (HasChild children) c.args.longest i.fewer c.down.end i.is c.if-end-eq0.true (has-none children c.down.end (sym c.lookup_child.ensures.child ∙ c.in_default.is)) i.first

pub down-smaller : goal.down-smaller
down-smaller g c =
    let less = shorter-less c.down.end c.down.invariant.fits (omega (arith, c.if-end-eq0.false)) in
    omega (arith, less, one-less c.down.end c.shorter-end.result c.shorter-end.ensures)

pub down-preserved : goal.down-preserved
down-preserved g c =
    let i = c.down.invariant in
    let children = (inner_shown c.args.node.now).children in
    let less = shorter-less c.down.end i.fits (omega (arith, c.if-end-eq0.false)) in
    record {
      fewer = suc i.fewer;
      is = one-further c.args.longest i.fewer c.down.end c.shorter-end.result i.is c.shorter-end.ensures;
      fits = omega (arith, less, i.fits, one-less c.down.end c.shorter-end.result c.shorter-end.ensures);
      first = first-further (HasChild children) c.args.longest i.fewer c.down.end i.is (has-none children c.down.end (sym c.lookup_child.ensures.child ∙ c.in_default.is)) i.first;
    }

use Rattle.std.proofs.Common.{◌-◌, ◌<◌, suc, get_or, arith}
use Rattle.art_routes.specs.Ends.{HasByte}
use Rattle.art_routes.proofs.EndLemmas.{first-further, none-left, one-further, one-less, passed, shorter-less, shorter-none}
use Rattle.art_routes.proofs.ends.next_end.Goals as goal

pub down-init : goal.down-init
down-init c = record {
  fewer = 0;
  is = shorter-none c.args.longest;
  fits = c.ranges.longest.fits;
  first = λ other less there. absurd (omega (arith, less));
  within = omega arith;
  above = λ place low high. absurd (omega (arith, low, high));
}

pub down-smaller : goal.down-smaller
down-smaller c =
    let below : get_or c.args.bytes.now (c.down.count - 1) 0 < c.down.end = omega (arith, c.if-byte-end.false, c.if-end-byte.false) in
    let less = shorter-less c.down.end c.down.invariant.fits (omega (arith, below)) in
    omega (arith, less, one-less c.down.end c.shorter-end.result c.shorter-end.ensures)

pub down-preserved : goal.down-preserved
down-preserved c =
    let i = c.down.invariant in
    let below : get_or c.args.bytes.now (c.down.count - 1) 0 < c.down.end = omega (arith, c.if-byte-end.false, c.if-end-byte.false) in
    let less = shorter-less c.down.end i.fits (omega (arith, below)) in
    let same = one-less c.down.end c.shorter-end.result c.shorter-end.ensures in
    record {
      fewer = suc i.fewer;
      is = one-further c.args.longest i.fewer c.down.end c.shorter-end.result i.is c.shorter-end.ensures;
      fits = omega (arith, same, less, i.fits);
      first =
          first-further (HasByte c.args.bytes.now) c.args.longest i.fewer c.down.end i.is
          (passed c.args.bytes.now c.requires.ascending c.down.count c.down.end c.down-test.true i.within i.above below) i.first;
      within = i.within;
      above = λ place low high. let over = i.above place low high in omega (arith, over, less, same);
    }

pub returns-clause-none : goal.returns-clause-none
returns-clause-none c =
    let i = c.down.invariant in
    none-left c.args.bytes.now c.requires.ascending c.args.longest i.fewer c.down.end i.is i.fits i.first (λ place high. i.above place (omega (arith, c.down-test.false)) high)

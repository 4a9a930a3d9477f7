use Rattle.std.proofs.Common.{refl}
use Rattle.std.proofs.iter.Next as it
use Rattle.art_map.proofs.ManyLemmas.{one-more}
use Rattle.art_map.proofs.map.Map.extend.Goals as goal

pub each-init : goal.each-init
each-init g c =
    let made = c.requires c.into_iter-rest.result c.into_iter-rest.ensures.into_iter_gives in
    it.begun made.0 made.1 (refl, c.len-len.ensures.ordered)

pub next-requires : goal.next-requires
next-requires g c = c.each.invariant.callable

pub each-smaller : goal.each-smaller
each-smaller g c = it.less c.each.invariant c.in-Some.entry c.in-Some.is c.next.ensures.goes

pub each-preserved-in-Ok : goal.each-preserved-in-Ok
each-preserved-in-Ok g c =
    let seen = c.each.invariant in
    let entry = c.in-Some.entry in
    it.again seen entry c.in-Some.is (c.next.ensures.steps, c.next.ensures.goes)
    (one-more g.K.Ord.cmp c.args.self.now seen.seen c.each.self c.insert.new.self entry seen.holds.0 c.in-Ok.ensures.entries, c.insert.ensures.ordered)

pub each-preserved-in-Ok-2 : goal.each-preserved-in-Ok-2
each-preserved-in-Ok-2 g c =
    let seen = c.each.invariant in
    let entry = c.in-Some.entry in
    it.again seen entry c.in-Some.is (c.next.ensures.steps, c.next.ensures.goes)
    (one-more g.K.Ord.cmp c.args.self.now seen.seen c.each.self c.insert.new.self entry seen.holds.0 c.in-Ok.ensures.entries, c.insert.ensures.ordered)

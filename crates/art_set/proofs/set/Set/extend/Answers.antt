use Rattle.std.proofs.Common.{◌∙◌, ap, refl, sym}
use Rattle.std.proofs.iter.Next as it
use Rattle.std.proofs.lemmas.List.Sums.{fold_push}
use Rattle.std.specs.BTreeSet.{insert_key}
use Rattle.art_set.proofs.set.Set.extend.Goals as goal

pub each-init : goal.each-init
each-init g c =
    let made = c.requires c.into_iter-rest.result c.into_iter-rest.ensures.into_iter_gives in
    it.begun made.0 made.1 (refl, c.len-len.ensures.ordered)

pub next-requires : goal.next-requires
next-requires g c = c.each.invariant.callable

pub each-smaller : goal.each-smaller
each-smaller g c = it.less c.each.invariant c.in-Some.key c.in-Some.is c.next.ensures.goes

pub each-preserved : goal.each-preserved
each-preserved g c =
    let seen = c.each.invariant in
    let key = c.in-Some.key in
    it.again seen key c.in-Some.is (c.next.ensures.steps, c.next.ensures.goes)
    (c.in-Ok.ensures.keys ∙ ap (λ l. insert_key g.K.Ord.cmp l key) seen.holds.0 ∙ sym (fold_push (insert_key g.K.Ord.cmp) c.args.self.now seen.seen key), c.insert.ensures.ordered)

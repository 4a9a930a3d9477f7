use Rattle.std.proofs.Common.{◌∙◌, [], refl, ap, sym, subst}
use Rattle.art_pages.specs.Entries.{AreKeys, IsOrdered}
use Rattle.art_pages.proofs.OrderLemmas.{ordered-same}
use Rattle.art_map.specs.Inserts.{insert_all}
use Rattle.art_map.proofs.MovingLemmas.{all-behind, one-moved, only-memory}
use Rattle.art_map.proofs.map.Map.append.Goals as goal

pub returns-then-is_empty-clause-all : goal.returns-then-is_empty-clause-all
returns-then-is_empty-clause-all g c =
    let other = c.args.other.now in
    let ordered = subst (IsOrdered g.K.Ord.cmp) c.other.view_is (ordered-same g.K.KeyBytes.order g.K.Ord.cmp _ g.met.K.RadixKey.ordered c.other.invariant.0.ordered) in
    c.swap.ensures.x_after ∙ sym (all-behind g.K.Ord.cmp g.met.K.Ord.total [] other ordered)
    ∙ ap (λ l. insert_all g.K.Ord.cmp l other) (sym (c.is_empty.ensures.0 c.if-is_empty.true))

pub each-init : goal.each-init
each-init g c = (
  [],
  refl,
  refl,
  subst (IsOrdered g.K.Ord.cmp) c.self.view_is (ordered-same g.K.KeyBytes.order g.K.Ord.cmp _ g.met.K.RadixKey.ordered c.self.invariant.0.ordered),
  subst (IsOrdered g.K.Ord.cmp) c.other.view_is (ordered-same g.K.KeyBytes.order g.K.Ord.cmp _ g.met.K.RadixKey.ordered c.other.invariant.0.ordered),
  subst (AreKeys g.K.KeyBytes.is_key g.K.KeyBytes.encoded) c.other.view_is c.other.invariant.0.keys,
)

pub returns-in-Err-clause-refusal : goal.returns-in-Err-clause-refusal
returns-in-Err-clause-refusal g c =
    only-memory g.K.Ord.cmp g.K.KeyBytes.is_key g.K.KeyBytes.encoded c.args.self.now c.args.other.now c.each.self c.each.other c.pop_first.new.self (c.in-Some.key, c.in-Some.value)
    c.each.invariant c.in-Some.ensures.removal c.in-Err.fault.refusal c.in-Err.ensures.too_long.0

pub each-preserved-in-Ok : goal.each-preserved-in-Ok
each-preserved-in-Ok g c =
    one-moved g.K.Ord.cmp g.K.KeyBytes.is_key g.K.KeyBytes.encoded c.args.self.now c.args.other.now c.each.self c.each.other c.pop_first.new.self (c.in-Some.key, c.in-Some.value)
    c.each.invariant c.in-Some.ensures.removal c.insert.new.self c.in-Ok.ensures.entries c.insert.ensures.ordered c.pop_first.ensures.ordered

pub each-preserved-in-Ok-2 : goal.each-preserved-in-Ok-2
each-preserved-in-Ok-2 g c =
    one-moved g.K.Ord.cmp g.K.KeyBytes.is_key g.K.KeyBytes.encoded c.args.self.now c.args.other.now c.each.self c.each.other c.pop_first.new.self (c.in-Some.key, c.in-Some.value)
    c.each.invariant c.in-Some.ensures.removal c.insert.new.self c.in-Ok.ensures.entries c.insert.ensures.ordered c.pop_first.ensures.ordered

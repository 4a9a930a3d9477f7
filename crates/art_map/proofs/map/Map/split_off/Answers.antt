use Rattle.std.proofs.Common.{◌∙◌, ◌∷◌, ◌++◌, subst, sym}
use Rattle.std.specs.declared.ops.Bound.TheVariants.{Included}
use Rattle.art_pages.specs.Entries.{AreKeys, IsOrdered}
use Rattle.art_pages.proofs.OrderLemmas.{ordered-same}
use Rattle.art_map.specs.Ranges.{is_from}
use Rattle.art_map.proofs.SplitLemmas.{none-moved, one-split, for-memory, whole, all-split}
use Rattle.art_map.proofs.map.Map.split_off.Goals as goal

pub each-init : goal.each-init
each-init g c =
    none-moved (λ (entry : g.row.K.Denot × g.row.V.Denot). is_from g.Q.RadixQuery.compare (Included c.args.from) entry.0) g.K.Ord.cmp g.K.KeyBytes.is_key g.K.KeyBytes.encoded c.args.self.now
    (subst (IsOrdered g.K.Ord.cmp) c.self.view_is (ordered-same g.K.KeyBytes.order g.K.Ord.cmp _ g.met.K.RadixKey.ordered c.self.invariant.0.ordered))
    (subst (AreKeys g.K.KeyBytes.is_key g.K.KeyBytes.encoded) c.self.view_is c.self.invariant.0.keys)
    c.new-moved.result c.new-moved.ensures

pub each-preserved-in-Ok : goal.each-preserved-in-Ok
each-preserved-in-Ok g c =
    one-split _ g.K.Ord.cmp g.K.KeyBytes.is_key g.K.KeyBytes.encoded c.args.self.now c.each.self c.each.moved c.pop_last_from.new.self (c.in-Some.key, c.in-Some.value)
    c.each.invariant c.in-Some.ensures.removal c.in-Some.ensures.at_or_above c.insert.new.self c.in-Ok.ensures.entries

pub each-preserved-in-Ok-2 : goal.each-preserved-in-Ok-2
each-preserved-in-Ok-2 g c =
    one-split _ g.K.Ord.cmp g.K.KeyBytes.is_key g.K.KeyBytes.encoded c.args.self.now c.each.self c.each.moved c.pop_last_from.new.self (c.in-Some.key, c.in-Some.value)
    c.each.invariant c.in-Some.ensures.removal c.in-Some.ensures.at_or_above c.insert.new.self c.in-Ok.ensures.entries

pub returns-in-Err-clause-stopped : goal.returns-in-Err-clause-stopped
returns-in-Err-clause-stopped g c =
    let (same_key, same_value) = c.in-Err.ensures.returned in
    whole _ g.K.Ord.cmp g.K.KeyBytes.is_key g.K.KeyBytes.encoded c.args.self.now c.each.self c.each.moved c.pop_last_from.new.self (c.in-Some.key, c.in-Some.value)
    c.each.invariant c.in-Some.ensures.removal
    ∙ (λ i. c.pop_last_from.new.self ++ (sym same_key i, sym same_value i) ∷ sym c.in-Err.ensures.err i)

pub returns-in-Err-clause-refusal : goal.returns-in-Err-clause-refusal
returns-in-Err-clause-refusal g c =
    for-memory _ g.K.Ord.cmp g.K.KeyBytes.is_key g.K.KeyBytes.encoded c.args.self.now c.each.self c.each.moved c.pop_last_from.new.self (c.in-Some.key, c.in-Some.value)
    c.each.invariant c.in-Some.ensures.removal c.in-Err.refused.refusal c.in-Err.ensures.too_long.0

pub returns-clause-kept : goal.returns-clause-kept
returns-clause-kept g c =
    c.in_default.ensures.unchanged
    ∙ (all-split _ g.K.Ord.cmp g.K.KeyBytes.is_key g.K.KeyBytes.encoded c.args.self.now c.each.self c.each.moved c.lower_bound.result.0 c.lower_bound.result.1 c.each.invariant
    c.in_default.ensures.below c.lower_bound.ensures.before c.lower_bound.ensures.after c.lower_bound.ensures.whole).0

pub returns-clause-moved : goal.returns-clause-moved
returns-clause-moved g c =
    (all-split _ g.K.Ord.cmp g.K.KeyBytes.is_key g.K.KeyBytes.encoded c.args.self.now c.each.self c.each.moved c.lower_bound.result.0 c.lower_bound.result.1 c.each.invariant
    c.in_default.ensures.below c.lower_bound.ensures.before c.lower_bound.ensures.after c.lower_bound.ensures.whole).1

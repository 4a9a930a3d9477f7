use Rattle.std.proofs.Common.{◌≡◌, ◌∙◌, ◌+◌, ◌∷◌, length, ap, sym, subst, arith}
use Rattle.art_pages.specs.Entries.{AllAbove, IsOrdered}
use Rattle.art_pages.proofs.OrderLemmas.{ordered-same}
use Rattle.art_map.proofs.EndLemmas.{above-others, length-rest, longer-first, value-first}
use Rattle.art_map.proofs.map.Map.pop_first.Goals as goal

pub invariant_of-self : goal.invariant_of-self
invariant_of-self g c =
    (c.take_first.ensures.map, length-rest _ _ c.in-Some.entry c.in-Some.ensures.first c.self.inside.len c.self.invariant.1)

pub invariant_of-self-in-None : goal.invariant_of-self-in-None
invariant_of-self-in-None g c =
    (c.take_first.ensures.map, c.self.invariant.1 ∙ ap length c.in-None.ensures.none ∙ sym (ap length c.in-None.ensures.same))

pub returns-in-Some-clause-removal : goal.returns-in-Some-clause-removal
returns-in-Some-clause-removal g c = sym c.self.view_is ∙ c.in-Some.ensures.first

pub returns-in-Some-clause-value : goal.returns-in-Some-clause-value
returns-in-Some-clause-value g c =
    value-first g.K.Ord.cmp g.met.K.Ord.total c.args.self.now _ c.in-Some.entry (sym c.self.view_is ∙ c.in-Some.ensures.first)

pub returns-in-Some-clause-all_above : goal.returns-in-Some-clause-all_above
returns-in-Some-clause-all_above g c =
    above-others g.K.Ord.cmp g.met.K.Ord.total _ _ c.in-Some.entry c.in-Some.ensures.first
    (ordered-same g.K.KeyBytes.order g.K.Ord.cmp _ g.met.K.RadixKey.ordered c.self.invariant.0.ordered)

pub returns-in-Some-clause-len : goal.returns-in-Some-clause-len
returns-in-Some-clause-len g c = longer-first c.args.self.now _ c.in-Some.entry (sym c.self.view_is ∙ c.in-Some.ensures.first)

pub returns-in-None-clause-none : goal.returns-in-None-clause-none
returns-in-None-clause-none g c = sym c.self.view_is ∙ c.in-None.ensures.none

pub returns-in-None-clause-unchanged : goal.returns-in-None-clause-unchanged
returns-in-None-clause-unchanged g c = c.in-None.ensures.same ∙ sym c.in-None.ensures.none ∙ c.self.view_is

pub returns-in-None-clause-len : goal.returns-in-None-clause-len
returns-in-None-clause-len g c =
    let same = ap length (c.in-None.ensures.same ∙ sym c.in-None.ensures.none ∙ c.self.view_is) in omega arith

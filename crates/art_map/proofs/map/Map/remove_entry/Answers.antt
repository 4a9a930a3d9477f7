use Rattle.std.proofs.Common.{◌∙◌, length, ap, sym, arith}
use Rattle.std.specs.BTreeMap.{is_at}
use Rattle.art_map.proofs.EntryLemmas.{length-taken, length-left, none-taken}
use Rattle.art_map.proofs.map.Map.remove_entry.Goals as goal

pub invariant_of-self : goal.invariant_of-self
invariant_of-self g c = (
  c.take.ensures.map,
  length-left (is_at (g.Q.RadixQuery.compare c.args.key)) _ _ c.in-Some.ensures.entries c.in-Some.entry.1 c.in-Some.ensures.value c.self.inside.len c.self.invariant.1,
)

pub invariant_of-self-in-None : goal.invariant_of-self-in-None
invariant_of-self-in-None g c = (
  c.take.ensures.map,
  c.self.invariant.1 ∙ sym (ap length (none-taken (is_at (g.Q.RadixQuery.compare c.args.key)) _ _ c.in-None.ensures.entries c.in-None.ensures.value)),
)

pub returns-in-Some-clause-len : goal.returns-in-Some-clause-len
returns-in-Some-clause-len g c =
    length-taken (is_at (g.Q.RadixQuery.compare c.args.key)) _ _ c.in-Some.ensures.entries c.in-Some.entry.1 c.in-Some.ensures.value
    ∙ ap length c.self.view_is

pub returns-in-None-clause-unchanged : goal.returns-in-None-clause-unchanged
returns-in-None-clause-unchanged g c =
    none-taken (is_at (g.Q.RadixQuery.compare c.args.key)) _ _ c.in-None.ensures.entries c.in-None.ensures.value ∙ c.self.view_is

pub returns-in-None-clause-len : goal.returns-in-None-clause-len
returns-in-None-clause-len g c =
    let same = ap length (none-taken (is_at (g.Q.RadixQuery.compare c.args.key)) _ _ c.in-None.ensures.entries c.in-None.ensures.value ∙ c.self.view_is) in
    omega arith

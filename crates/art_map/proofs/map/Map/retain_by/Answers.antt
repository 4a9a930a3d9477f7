use Rattle.std.proofs.Common.{◌≤◌, length, rules, subst, sym}
use Rattle.std.specs.Map.Calls.{CallableOnEachPair, RetainsPairs}
use Rattle.art_pages.proofs.RetainLemmas.{pairs-shorter}
use Rattle.art_map.specs.Pages.{map_entries}
use Rattle.art_map.specs.Trees.{pages_in, pages_of}
use Rattle.art_map.proofs.map.Map.retain_by.Goals as goal

pub retain-self-inside-requires : goal.retain-self-inside-requires
retain-self-inside-requires g c =
    let old = map_entries c.self.inside.head.entries (pages_in (λ tree. pages_of tree.value.arena) c.self.inside.tree) in
    let callable : CallableOnEachPair g.F.Keeps.step g.F.Keeps.accepts c.args.test old =
    subst (CallableOnEachPair g.F.Keeps.step g.F.Keeps.accepts c.args.test) (sym c.self.view_is) c.requires in
    let map = c.self.invariant.0 in let len = c.self.invariant.1 in
    search rules

pub invariant_of-self : goal.invariant_of-self
invariant_of-self g c = (c.retain-self-inside.ensures.map, c.retain-self-inside.ensures.len)

pub returns-clause-retained : goal.returns-clause-retained
returns-clause-retained g c =
    let new = c.retain-self-inside.new in
    subst (λ old. RetainsPairs g.F.Keeps.step c.args.test old (map_entries new.head.entries (pages_in (λ tree. pages_of tree.value.arena) new.tree)))
    c.self.view_is c.retain-self-inside.ensures.retained

pub returns-clause-bound : goal.returns-clause-bound
returns-clause-bound g c =
    let old = map_entries c.self.inside.head.entries (pages_in (λ tree. pages_of tree.value.arena) c.self.inside.tree) in
    let new = c.retain-self-inside.new in let left = map_entries new.head.entries (pages_in (λ tree. pages_of tree.value.arena) new.tree) in
    subst (λ (l : _). length left ≤ length l) c.self.view_is
    (pairs-shorter g.F.Keeps.step old left c.args.test c.retain-self-inside.ensures.retained)

use Rattle.std.proofs.Common.{ap, arith, length, rules}
use Rattle.std.specs.Map.Calls.{CallableOnEachPair}
use Rattle.std.specs.Prelude.{IfSome}
use Rattle.art_index.specs.Places.{IsPlaced}
use Rattle.art_map.specs.Pages.{entries_in}
use Rattle.art_map.specs.Trees.{pages_of}
use Rattle.art_map.proofs.WalkLemmas.{length-left, passed-same, placed-callable, placed-leaf, up-to-placed, walk-end, walk-fewer, walk-next, walk-start, within-all}
use Rattle.art_map.proofs.walk.retain_over.Goals as goal

pub pages-init : goal.pages-init
pages-init g c = (
  walk-start g.F.Keeps.step g.F.Keeps.accepts c.args.test.now c.args.tree.now.arena c.page_behind-at.result c.requires.callable c.page_behind-at.ensures,
  λ head map. map,
  omega arith,
)

pub retain_at-len-requires : goal.retain_at-len-requires
retain_at-len-requires g c =
    let first = c.args.test.now in let entries = entries_in (pages_of c.args.tree.now.arena) in
    let page : (here : IsPlaced (λ anchor. anchor) c.pages.tree.arena c.in-Some.leaf) × CallableOnEachPair g.F.Keeps.step g.F.Keeps.accepts c.pages.test here.entry.1.entries =
    placed-callable g.F.Keeps.step g.F.Keeps.accepts first entries c.pages.tree.arena c.pages.at c.in-Some.leaf c.pages.test c.pages.invariant.0 c.in-Some.is in
    search rules

pub overflow_sub-len : goal.overflow_sub-len
overflow_sub-len g c =
    let first = c.args.test.now in let entries = entries_in (pages_of c.args.tree.now.arena) in
    let here = placed-leaf g.F.Keeps.step g.F.Keeps.accepts first entries c.pages.tree.arena c.pages.at c.in-Some.leaf c.pages.test c.pages.invariant.0 c.in-Some.is in
    let within = within-all g.F.Keeps.step g.F.Keeps.accepts first entries c.pages.tree.arena c.pages.at c.in-Some.leaf c.pages.test c.pages.invariant.0 c.in-Some.is in
    let count = (c.retain_at-len.ensures.retained here).4 in
    omega (arith, within, count, c.pages.invariant.2, c.requires.len)

pub drop_emptied-last-requires : goal.drop_emptied-last-requires
drop_emptied-last-requires g c =
    let first = c.args.test.now in let entries = entries_in (pages_of c.args.tree.now.arena) in
    let here = placed-leaf g.F.Keeps.step g.F.Keeps.accepts first entries c.pages.tree.arena c.pages.at c.in-Some.leaf c.pages.test c.pages.invariant.0 c.in-Some.is in
    let now : IsPlaced (λ anchor. anchor) c.retain_at-len.new.tree.arena c.in-Some.leaf = (c.retain_at-len.ensures.retained here).0 in
    search rules

pub page_behind-at-requires-in-Some : goal.page_behind-at-requires-in-Some
page_behind-at-requires-in-Some g c =
    let first = c.args.test.now in let entries = entries_in (pages_of c.args.tree.now.arena) in
    let here = placed-leaf g.F.Keeps.step g.F.Keeps.accepts first entries c.pages.tree.arena c.pages.at c.in-Some.leaf c.pages.test c.pages.invariant.0 c.in-Some.is in
    let now = (c.retain_at-len.ensures.retained here).0 in
    let (seen, up_to, seen_are) = c.drop_emptied-last.ensures.passed now in
    let last : IfSome c.drop_emptied-last.result (λ leaf. IsPlaced (λ anchor. anchor) c.drop_emptied-last.new.tree.arena leaf) =
    up-to-placed c.drop_emptied-last.new.tree.arena c.drop_emptied-last.result seen now.right up_to in
    search rules

pub pages-preserved : goal.pages-preserved
pages-preserved g c =
    let step = g.F.Keeps.step in let accepts = g.F.Keeps.accepts in
    let first = c.args.test.now in let entries = entries_in (pages_of c.args.tree.now.arena) in
    let old = c.pages.tree.arena in let mid = c.retain_at-len.new.tree.arena in let new = c.drop_emptied-last.new.tree.arena in
    let walk = c.pages.invariant.0 in
    let here = placed-leaf step accepts first entries old c.pages.at c.in-Some.leaf c.pages.test walk c.in-Some.is in
    let (now, left, right, on, count) = c.retain_at-len.ensures.retained here in
    let passed = c.drop_emptied-last.ensures.passed now in
    let gone = length-left step accepts first entries old c.pages.at c.in-Some.leaf c.pages.test walk c.in-Some.is mid c.retain_at-len.new.test now left right on c.retain_at-len.result count in
    let len = c.pages.invariant.2 in let same = ap length (passed-same mid new c.in-Some.leaf now c.drop_emptied-last.result passed) in (
      walk-next step accepts first entries old c.pages.at c.in-Some.leaf c.pages.test walk c.in-Some.is mid c.retain_at-len.new.test now left right on new c.drop_emptied-last.result c.page_behind-at-in-Some.result passed c.page_behind-at-in-Some.ensures,
      λ head map. c.drop_emptied-last.ensures.map head (c.retain_at-len.ensures.map head (c.pages.invariant.1 head map)),
      omega (arith, gone, len, same),
    )

pub pages-smaller : goal.pages-smaller
pages-smaller g c =
    let step = g.F.Keeps.step in let accepts = g.F.Keeps.accepts in
    let first = c.args.test.now in let entries = entries_in (pages_of c.args.tree.now.arena) in
    let old = c.pages.tree.arena in let mid = c.retain_at-len.new.tree.arena in let new = c.drop_emptied-last.new.tree.arena in
    let walk = c.pages.invariant.0 in
    let here = placed-leaf step accepts first entries old c.pages.at c.in-Some.leaf c.pages.test walk c.in-Some.is in
    let (now, left, right, on, count) = c.retain_at-len.ensures.retained here in
    let passed = c.drop_emptied-last.ensures.passed now in
    walk-fewer step accepts first entries old c.pages.at c.in-Some.leaf c.pages.test walk c.in-Some.is mid c.retain_at-len.new.test now left right on new c.drop_emptied-last.result c.page_behind-at-in-Some.result passed c.page_behind-at-in-Some.ensures

pub returns-clause-retained : goal.returns-clause-retained
returns-clause-retained g c =
    let first = c.args.test.now in let entries = entries_in (pages_of c.args.tree.now.arena) in
    walk-end g.F.Keeps.step g.F.Keeps.accepts first entries c.pages.tree.arena c.pages.at c.pages.test c.pages.invariant.0 c.in_default.is

use Rattle.std.proofs.Common.{◌+◌, ◌∙◌, ap, length, subst, sym}
use Rattle.std.specs.Map.Calls.{CallableOnEachPair}
use Rattle.art_arena.specs.Links.{with_value_at}
use Rattle.art_nodes.specs.Pointers.{slab_key}
use Rattle.art_pages.specs.Retaining.{RetainsTo}
use Rattle.art_map.specs.Trees.{page_of, pages_of}
use Rattle.art_map.proofs.FewerLemmas.{page-fewer}
use Rattle.art_map.proofs.TreeLemmas.{pages, pages-around, pages-changed}
use Rattle.art_map.proofs.WalkLemmas.{fewer-retained}
use Rattle.art_map.proofs.walk.retain_at.Goals as goal

pub retain-requires : goal.retain-requires
retain-requires g c =
    let (here, callable) = c.requires in
    subst (λ (p : _). CallableOnEachPair g.F.Keeps.step g.F.Keeps.accepts c.args.test.now p.entries) (sym (c.page_mut.ensures.page here)) callable

pub returns-clause-map : goal.returns-clause-map
returns-clause-map g c = λ head map.
    let here = c.requires.0 in let old = c.args.tree.now.arena in let page = c.retain.new.self in
    let new = with_value_at old (slab_key c.args.leaf) page in
    let was = ap (λ (p : _). p.entries) (c.page_mut.ensures.page here) in
    let tested = subst (λ l. RetainsTo g.F.Keeps.step c.args.test.now l page.entries c.retain.new.test) was c.retain.ensures.retained in
    page-fewer g.K.KeyBytes.order g.K.KeyBytes.is_key g.K.KeyBytes.encoded head (pages_of old) map
    (pages here.left) (page_of here.entry) (pages here.right) (pages-around old c.args.leaf here)
    page.entries (fewer-retained g.F.Keeps.step here.entry.1.entries page.entries c.args.test.now c.retain.new.test tested)
    (pages_of new) (pages-changed old new c.args.leaf page here (c.page_mut.ensures.changes here page))

pub returns-clause-retained : goal.returns-clause-retained
returns-clause-retained g c = λ here.
    let page = c.retain.new.self in let (now, left, entry, right) = c.page_mut.ensures.changes here page in
    let was = ap (λ (p : _). p.entries) (c.page_mut.ensures.page here) in
    let is = ap (λ (e : _ × _). e.1.entries) entry in
    let tested = subst (λ l. RetainsTo g.F.Keeps.step c.args.test.now l page.entries c.retain.new.test) was c.retain.ensures.retained in (
      now,
      left,
      right,
      subst (λ l. RetainsTo g.F.Keeps.step c.args.test.now here.entry.1.entries l c.retain.new.test) (sym is) tested,
      ap (λ l. length l + c.retain.result) is ∙ c.retain.ensures.gone ∙ ap length was,
    )

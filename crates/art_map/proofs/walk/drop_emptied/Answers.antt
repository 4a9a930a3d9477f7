use Rattle.std.proofs.Common.{◌∙◌, ap, refl, subst, sym}
use Rattle.art_map.specs.Pages.{IsMap}
use Rattle.art_map.specs.Trees.{page_of, pages_of}
use Rattle.art_map.proofs.TakeLemmas.{map-without}
use Rattle.art_map.proofs.TreeLemmas.{pages, pages-around, pages-without}
use Rattle.art_map.proofs.WalkLemmas.{passed-still, passed-taken, placed-still}
use Rattle.art_map.proofs.walk.drop_emptied.Goals as goal

pub returns-then-not-is_empty-clause-passed : goal.returns-then-not-is_empty-clause-passed
returns-then-not-is_empty-clause-passed g c = λ here.
    let arena = c.args.tree.now.arena in passed-still arena arena c.args.leaf here (here, refl, refl, refl)

pub returns-in-Ok-clause-map : goal.returns-in-Ok-clause-map
returns-in-Ok-clause-map g c = λ head map.
    let here = c.requires in let old = c.args.tree.now.arena in let new = c.take_page.new.tree.arena in
    let empty = ap (λ (leaf : _ × _). leaf.1.entries) (sym (c.page.ensures here)) ∙ c.is_empty.ensures.0 c.if-not-is_empty.false in
    map-without g.K.KeyBytes.order g.K.KeyBytes.is_key g.K.KeyBytes.encoded head (pages_of old) map
    (pages here.left) (page_of here.entry) (pages here.right) (pages-around old c.args.leaf here) empty
    (pages_of new) (pages-without old new c.args.leaf here (c.in-Ok.ensures.taken here).1)

pub returns-in-Ok-clause-passed : goal.returns-in-Ok-clause-passed
returns-in-Ok-clause-passed g c = λ here.
    let old = c.args.tree.now.arena in let new = c.take_page.new.tree.arena in
    let empty = ap (λ (leaf : _ × _). leaf.1.entries) (sym (c.page.ensures here)) ∙ c.is_empty.ensures.0 c.if-not-is_empty.false in
    passed-taken old new c.args.leaf here c.previous_page-previous.result (c.previous_page-previous.ensures here) empty
    (c.in-Ok.ensures.taken here).1 (λ previous before right. c.in-Ok.ensures.previous_stays here previous before right)

pub returns-in-Err-clause-map : goal.returns-in-Err-clause-map
returns-in-Err-clause-map g c = λ head map.
    subst (λ l. IsMap g.K.KeyBytes.order g.K.KeyBytes.is_key g.K.KeyBytes.encoded head (pages l)) (sym c.in-Err.ensures.same_entries) map

pub returns-in-Err-clause-passed : goal.returns-in-Err-clause-passed
returns-in-Err-clause-passed g c = λ here.
    let old = c.args.tree.now.arena in let new = c.take_page.new.tree.arena in
    passed-still old new c.args.leaf here (placed-still old new c.args.leaf here c.in-Err.ensures.nodes_kept c.in-Err.ensures.same_entries)

use Rattle.std.proofs.Common.{◌∙◌, length, ap, sym, arith}
use Rattle.art_map.specs.Trees.{page_of, pages_of}
use Rattle.art_map.proofs.TakeLemmas.{same-without, map-without}
use Rattle.art_map.proofs.TreeLemmas.{pages, pages-around, pages-without}
use Rattle.art_map.proofs.take.drop_if_empty.Goals as goal

pub destroy_empty-requires : goal.destroy_empty-requires
destroy_empty-requires g c =
    let here = c.requires.leaf in
    let empty = ap (λ (leaf : _). leaf.1.entries) (sym (c.page.ensures here)) ∙ c.is_empty.ensures.0 c.if-is_empty.true in
    let none = ap length (c.into_entries.ensures ∙ ap (λ (leaf : _). leaf.1.entries) (c.in-Ok.ensures.taken here).0 ∙ empty) in
    let counted = c.into_entries.result.ok.0 in omega (arith, none, counted)

pub returns-in-Ok-clause-map : goal.returns-in-Ok-clause-map
returns-in-Ok-clause-map g c =
    let here = c.requires.leaf in let old = c.args.tree.now.arena in let new = c.take_page.new.tree.arena in
    let empty = ap (λ (leaf : _). leaf.1.entries) (sym (c.page.ensures here)) ∙ c.is_empty.ensures.0 c.if-is_empty.true in
    map-without g.K.KeyBytes.order g.K.KeyBytes.is_key g.K.KeyBytes.encoded c.args._head.now.entries (pages_of old) c.requires.map
    (pages here.left) (page_of here.entry) (pages here.right) (pages-around old c.args.leaf here) empty
    (pages_of new) (pages-without old new c.args.leaf here (c.in-Ok.ensures.taken here).1)

pub returns-in-Ok-clause-same : goal.returns-in-Ok-clause-same
returns-in-Ok-clause-same g c =
    let here = c.requires.leaf in let old = c.args.tree.now.arena in let new = c.take_page.new.tree.arena in
    let empty = ap (λ (leaf : _). leaf.1.entries) (sym (c.page.ensures here)) ∙ c.is_empty.ensures.0 c.if-is_empty.true in
    same-without g.K.KeyBytes.order g.K.KeyBytes.is_key g.K.KeyBytes.encoded c.args._head.now.entries (pages_of old) c.requires.map
    (pages here.left) (page_of here.entry) (pages here.right) (pages-around old c.args.leaf here) empty
    (pages_of new) (pages-without old new c.args.leaf here (c.in-Ok.ensures.taken here).1)

use Rattle.std.proofs.Common.{rules, ◌∙◌, ◌∷◌, ◌<◌, length, ap, sym, subst}
use Rattle.art_arena.specs.Links.{with_value_at}
use Rattle.art_nodes.specs.Pointers.{slab_key}
use Rattle.art_index.specs.Places.{IsPlaced}
use Rattle.art_map.specs.Pages.{IsMap}
use Rattle.art_map.specs.Trees.{page_of, pages_of}
use Rattle.art_map.proofs.EndLemmas.{first-and-rest, first-of-page, page-rest, some-there}
use Rattle.art_map.proofs.TreeLemmas.{pages, pages-around, pages-changed}
use Rattle.art_map.proofs.ends.take_first_over.Goals as goal

pub remove_at-entry-requires : goal.remove_at-entry-requires
remove_at-entry-requires g c =
    let found = c.in_ok-leaf.ensures in
    subst (λ (p : _). 0 < length p.entries) (sym (c.page_mut.ensures.page found.0)) (some-there found.0.entry.1.entries found.2)

pub settle-requires : goal.settle-requires
settle-requires g c =
    let order = g.K.KeyBytes.order in let is_key = g.K.KeyBytes.is_key in let encoded = g.K.KeyBytes.encoded in
    let old = c.args.tree.now.arena in let head = c.args._head.now.entries in
    let here = c.in_ok-leaf.ensures.0 in let page = c.remove_at-entry.new.self in
    let new = with_value_at old (slab_key c.in_ok-leaf.leaf) page in
    let first = sym (ap (λ (p : _). p.entries) (c.page_mut.ensures.page here))
    ∙ first-and-rest c.page_mut.result.now.entries page.entries c.remove_at-entry.result c.remove_at-entry.ensures.entry c.remove_at-entry.ensures.entries in
    let map : IsMap order is_key encoded head (pages_of new) =
    page-rest order is_key encoded c.remove_at-entry.result head (pages_of old) c.requires.map c.requires.none
    (pages here.left) (page_of here.entry) (pages here.right) (pages-around old c.in_ok-leaf.leaf here) c.in_ok-leaf.ensures.1
    page.entries first (pages_of new) (pages-changed old new c.in_ok-leaf.leaf page here (c.page_mut.ensures.changes here page)) in
    let leaf : IsPlaced (λ anchor. anchor) new c.in_ok-leaf.leaf = (c.page_mut.ensures.changes here page).0 in
    search rules

pub returns-clause-first : goal.returns-clause-first
returns-clause-first g c =
    let order = g.K.KeyBytes.order in let is_key = g.K.KeyBytes.is_key in let encoded = g.K.KeyBytes.encoded in
    let old = c.args.tree.now.arena in let head = c.args._head.now.entries in
    let here = c.in_ok-leaf.ensures.0 in let page = c.remove_at-entry.new.self in
    let new = with_value_at old (slab_key c.in_ok-leaf.leaf) page in
    let first = sym (ap (λ (p : _). p.entries) (c.page_mut.ensures.page here))
    ∙ first-and-rest c.page_mut.result.now.entries page.entries c.remove_at-entry.result c.remove_at-entry.ensures.entry c.remove_at-entry.ensures.entries in
    first-of-page order is_key encoded c.remove_at-entry.result head (pages_of old) c.requires.map c.requires.none
    (pages here.left) (page_of here.entry) (pages here.right) (pages-around old c.in_ok-leaf.leaf here) c.in_ok-leaf.ensures.1
    page.entries first (pages_of new) (pages-changed old new c.in_ok-leaf.leaf page here (c.page_mut.ensures.changes here page))
    ∙ ap (λ l. c.remove_at-entry.result ∷ l) (sym c.settle.ensures.same)

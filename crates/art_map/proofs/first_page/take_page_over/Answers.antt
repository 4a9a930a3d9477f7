use Rattle.std.proofs.Common.{rules, ◌∙◌, ◌∷◌, ◌++◌, [], ap, sym}
use Rattle.art_arena.specs.Links.{with_value_at}
use Rattle.art_nodes.specs.Pointers.{slab_key}
use Rattle.art_index.specs.Places.{IsPlaced}
use Rattle.art_map.specs.Pages.{map_entries, IsMap}
use Rattle.art_map.specs.Trees.{page_of, pages_of}
use Rattle.art_map.proofs.FewerLemmas.{fewer-none, page-fewer}
use Rattle.art_map.proofs.FirstPageLemmas.{page-first}
use Rattle.art_map.proofs.TreeLemmas.{pages, pages-around, pages-changed}
use Rattle.art_map.proofs.first_page.take_page_over.Goals as goal

pub drop_if_empty-requires : goal.drop_if_empty-requires
drop_if_empty-requires g c =
    let order = g.K.KeyBytes.order in let is_key = g.K.KeyBytes.is_key in let encoded = g.K.KeyBytes.encoded in
    let old = c.args.tree.now.arena in let head = c.args._head.now.entries in
    let here = c.in-Some.ensures.0 in let page = c.replace-first.new.dest in
    let new = with_value_at old (slab_key c.in-Some.leaf) page in
    let empty = ap (λ (p : _). p.entries) c.replace-first.ensures.after ∙ c.new-2.ensures in
    let now = pages-changed old new c.in-Some.leaf page here (c.page_mut.ensures.changes here page)
    ∙ ap (λ l. pages here.left ++ (here.entry.0, l) ∷ pages here.right) empty in
    let map : IsMap order is_key encoded head (pages_of new) =
    page-fewer order is_key encoded head (pages_of old) c.requires.map
    (pages here.left) (page_of here.entry) (pages here.right) (pages-around old c.in-Some.leaf here) [] (fewer-none here.entry.1.entries) (pages_of new) now in
    let leaf : IsPlaced (λ anchor. anchor) new c.in-Some.leaf = (c.page_mut.ensures.changes here page).0 in
    search rules

pub returns-clause-first : goal.returns-clause-first
returns-clause-first g c =
    let old = c.args.tree.now.arena in let head = c.args._head.now.entries in
    let here = c.in-Some.ensures.0 in let page = c.replace-first.new.dest in
    let new = with_value_at old (slab_key c.in-Some.leaf) page in
    let empty = ap (λ (p : _). p.entries) c.replace-first.ensures.after ∙ c.new-2.ensures in
    let now = pages-changed old new c.in-Some.leaf page here (c.page_mut.ensures.changes here page)
    ∙ ap (λ l. pages here.left ++ (here.entry.0, l) ∷ pages here.right) empty in
    let taken = c.into_entries.ensures ∙ ap (λ (p : _). p.entries) (c.replace-first.ensures.value ∙ c.page_mut.ensures.page here) in
    page-first head c.requires.none (pages here.left) (page_of here.entry) (pages here.right) c.in-Some.ensures.1 (pages_of old) (pages_of new) (pages-around old c.in-Some.leaf here) now
    ∙ ap (λ l. l ++ map_entries head (pages_of new)) (sym taken)
    ∙ ap (λ l. c.into_entries.result.items ++ l) (sym c.drop_if_empty.ensures.same)

pub returns-clause-none : goal.returns-clause-none
returns-clause-none g c =
    let here = c.in-Some.ensures.0 in
    let taken = c.into_entries.ensures ∙ ap (λ (p : _). p.entries) (c.replace-first.ensures.value ∙ c.page_mut.ensures.page here) in
    λ none. absurd (c.in-Some.ensures.2 (sym taken ∙ none))

use Rattle.std.proofs.Common.{rules, ◌≡◌, ◌∙◌, ◌∷◌, ◌++◌, ◌<◌, [], length, ap, sym, subst, arith}
use Rattle.art_arena.specs.Links.{with_value_at}
use Rattle.art_nodes.specs.Pointers.{slab_key}
use Rattle.art_index.specs.Places.{IsPlaced}
use Rattle.art_map.specs.Pages.{IsMap}
use Rattle.art_map.specs.Trees.{page_of, pages_of}
use Rattle.art_map.proofs.EndLemmas.{last-and-rest, some-there}
use Rattle.art_map.proofs.FewerLemmas.{IsFewer, fewer-first, page-fewer, taken-last}
use Rattle.art_map.proofs.TreeLemmas.{pages, pages-around, pages-changed}
use Rattle.art_map.proofs.ends.take_last_of_tree.Goals as goal

pub overflow_sub-last : goal.overflow_sub-last
overflow_sub-last g c =
    let here = c.in_ok-leaf.ensures.0 in
    let counted = c.len-last.ensures.len ∙ ap (λ (leaf : _). length leaf.1.entries) (c.page.ensures here) in
    let some = some-there here.entry.1.entries c.in_ok-leaf.ensures.2 in omega (arith, counted, some)

pub remove_at-entry-requires : goal.remove_at-entry-requires
remove_at-entry-requires g c =
    let here = c.in_ok-leaf.ensures.0 in
    let was = ap (λ (p : _). p.entries) (c.page_mut.ensures.page here) in
    let counted = c.len-last.ensures.len ∙ ap (λ (leaf : _). length leaf.1.entries) (c.page.ensures here) ∙ ap length (sym was) in
    let some = subst (λ l. 0 < length l) (sym was) (some-there here.entry.1.entries c.in_ok-leaf.ensures.2) in omega (arith, counted, some)

pub settle-requires : goal.settle-requires
settle-requires g c =
    let order = g.K.KeyBytes.order in let is_key = g.K.KeyBytes.is_key in let encoded = g.K.KeyBytes.encoded in
    let old = c.args.tree.now.arena in let head = c.args._head.now.entries in
    let here = c.in_ok-leaf.ensures.0 in let page = c.remove_at-entry.new.self in
    let new = with_value_at old (slab_key c.in_ok-leaf.leaf) page in
    let was = ap (λ (p : _). p.entries) (c.page_mut.ensures.page here) in
    let counted = c.len-last.ensures.len ∙ ap (λ (leaf : _). length leaf.1.entries) (c.page.ensures here) ∙ ap length (sym was) in
    let last = sym was ∙ last-and-rest c.page_mut.result.now.entries page.entries c.remove_at-entry.result c.len-last.result counted c.remove_at-entry.ensures.entry c.remove_at-entry.ensures.entries in
    let fewer : IsFewer here.entry.1.entries page.entries =
    subst (λ l. IsFewer l page.entries) (sym last) (fewer-first page.entries (c.remove_at-entry.result ∷ [])) in
    let map : IsMap order is_key encoded head (pages_of new) =
    page-fewer order is_key encoded head (pages_of old) c.requires
    (pages here.left) (page_of here.entry) (pages here.right) (pages-around old c.in_ok-leaf.leaf here)
    page.entries fewer (pages_of new) (pages-changed old new c.in_ok-leaf.leaf page here (c.page_mut.ensures.changes here page)) in
    let leaf : IsPlaced (λ anchor. anchor) new c.in_ok-leaf.leaf = (c.page_mut.ensures.changes here page).0 in
    search rules

pub returns-clause-last : goal.returns-clause-last
returns-clause-last g c =
    let old = c.args.tree.now.arena in let head = c.args._head.now.entries in
    let here = c.in_ok-leaf.ensures.0 in let page = c.remove_at-entry.new.self in
    let new = with_value_at old (slab_key c.in_ok-leaf.leaf) page in
    let was = ap (λ (p : _). p.entries) (c.page_mut.ensures.page here) in
    let counted = c.len-last.ensures.len ∙ ap (λ (leaf : _). length leaf.1.entries) (c.page.ensures here) ∙ ap length (sym was) in
    let last = sym was ∙ last-and-rest c.page_mut.result.now.entries page.entries c.remove_at-entry.result c.len-last.result counted c.remove_at-entry.ensures.entry c.remove_at-entry.ensures.entries in
    taken-last head (pages_of old)
    (pages here.left) (page_of here.entry) (pages here.right) (pages-around old c.in_ok-leaf.leaf here)
    page.entries (c.remove_at-entry.result ∷ []) (pages_of new) (pages-changed old new c.in_ok-leaf.leaf page here (c.page_mut.ensures.changes here page))
    c.in_ok-leaf.ensures.1 last
    ∙ ap (λ l. l ++ c.remove_at-entry.result ∷ []) (sym c.settle.ensures.same)

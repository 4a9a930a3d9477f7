use Rattle.std.proofs.Common.{◌∙◌, ◌∷◌, ◌++◌, ap, sym, subst}
use Rattle.art_keys.specs.EncodingLaws.{sorted_agrees}
use Rattle.art_arena.specs.Links.{with_value_at}
use Rattle.art_nodes.specs.Pointers.{slab_key}
use Rattle.art_pages.specs.Entries.{get_key_by}
use Rattle.art_map.specs.Inserts.{IsSwapped}
use Rattle.art_map.specs.Pages.{map_entries, IsMap}
use Rattle.art_map.specs.Trees.{page_of, pages_of}
use Rattle.art_map.proofs.PartLemmas.{AgreesBy, head-of-query, page-of-query}
use Rattle.art_map.proofs.PutLemmas.{by-result, err-then, ok-then}
use Rattle.art_map.proofs.SeatLemmas.{key-of-page}
use Rattle.art_map.proofs.SwapLemmas.{head-swap, head-swap-map, ok-weaker, page-swap, page-swap-map}
use Rattle.art_map.proofs.TreeLemmas.{pages, anchors-above, pages-around, pages-changed}
use Rattle.art_map.proofs.put.swap_over.Goals as goal

pub returns-in-Some-clause-map : goal.returns-in-Some-clause-map
returns-in-Some-clause-map g c =
    let order = g.K.KeyBytes.order in let cmp = g.K.Ord.cmp in let is_key = g.K.KeyBytes.is_key in let encoded = g.K.KeyBytes.encoded in let key = c.args.key in
    let law : AgreesBy is_key encoded (cmp key) (encoded key) = λ k is. sorted_agrees (cmp key k) (encoded key) (encoded k) (g.met.K.RadixKey.sorted key k c.requires.key.0 is.0) in
    let head = c.args.head.now.entries in let old = c.args.tree.now.arena in
    let place = c.in-Some.ensures.place in let page = c.swap_in.new.page in
    let new = with_value_at old (slab_key c.in-Some.leaf) page in
    let was = ap (λ (p : _). p.entries) (c.page_mut.ensures.page place) in
    let around = pages-around old c.in-Some.leaf place in
    let changed = pages-changed old new c.in-Some.leaf page place (c.page_mut.ensures.changes place page) in
    by-result (IsMap order is_key encoded head (pages_of new)) c.swap_in.result c.swap_in.ensures.entries c.swap_in.ensures.same
    (λ swapped. page-swap-map order cmp g.met.K.RadixKey.ordered g.met.K.Ord.total is_key encoded key c.requires.key law head (pages_of old) c.requires.map (pages place.left) (page_of place.entry) (pages place.right) around c.in-Some.ensures.low (anchors-above (encoded key) place.right c.in-Some.ensures.above) page.entries (pages_of new) changed (subst (λ l. IsSwapped cmp key l page.entries) was swapped))
    (λ so. subst (IsMap order is_key encoded head) (sym (changed ∙ ap (λ l. pages place.left ++ (place.entry.0, l) ∷ pages place.right) (so ∙ was) ∙ sym around)) c.requires.map)

pub returns-in-Some-clause-entries : goal.returns-in-Some-clause-entries
returns-in-Some-clause-entries g c =
    let order = g.K.KeyBytes.order in let cmp = g.K.Ord.cmp in let is_key = g.K.KeyBytes.is_key in let encoded = g.K.KeyBytes.encoded in let key = c.args.key in
    let law : AgreesBy is_key encoded (cmp key) (encoded key) = λ k is. sorted_agrees (cmp key k) (encoded key) (encoded k) (g.met.K.RadixKey.sorted key k c.requires.key.0 is.0) in
    let head = c.args.head.now.entries in let old = c.args.tree.now.arena in
    let place = c.in-Some.ensures.place in let page = c.swap_in.new.page in
    let new = with_value_at old (slab_key c.in-Some.leaf) page in
    let was = ap (λ (p : _). p.entries) (c.page_mut.ensures.page place) in
    let around = pages-around old c.in-Some.leaf place in
    let changed = pages-changed old new c.in-Some.leaf page place (c.page_mut.ensures.changes place page) in
    ok-then c.swap_in.result c.swap_in.ensures.entries
    (λ swapped. page-swap order cmp g.met.K.RadixKey.ordered g.met.K.Ord.total is_key encoded key c.requires.key law head (pages_of old) c.requires.map (pages place.left) (page_of place.entry) (pages place.right) around c.in-Some.ensures.low (anchors-above (encoded key) place.right c.in-Some.ensures.above) page.entries (pages_of new) changed (subst (λ l. IsSwapped cmp key l page.entries) was swapped))

pub returns-in-Some-clause-same : goal.returns-in-Some-clause-same
returns-in-Some-clause-same g c =
    let order = g.K.KeyBytes.order in let cmp = g.K.Ord.cmp in let is_key = g.K.KeyBytes.is_key in let encoded = g.K.KeyBytes.encoded in let key = c.args.key in
    let law : AgreesBy is_key encoded (cmp key) (encoded key) = λ k is. sorted_agrees (cmp key k) (encoded key) (encoded k) (g.met.K.RadixKey.sorted key k c.requires.key.0 is.0) in
    let head = c.args.head.now.entries in let old = c.args.tree.now.arena in
    let place = c.in-Some.ensures.place in let page = c.swap_in.new.page in
    let new = with_value_at old (slab_key c.in-Some.leaf) page in
    let was = ap (λ (p : _). p.entries) (c.page_mut.ensures.page place) in
    let around = pages-around old c.in-Some.leaf place in
    let changed = pages-changed old new c.in-Some.leaf page place (c.page_mut.ensures.changes place page) in
    err-then c.swap_in.result c.swap_in.ensures.same (λ so. ap (map_entries head) (changed ∙ ap (λ l. pages place.left ++ (place.entry.0, l) ∷ pages place.right) (so ∙ was) ∙ sym around))

pub returns-in-Some-clause-old : goal.returns-in-Some-clause-old
returns-in-Some-clause-old g c =
    let order = g.K.KeyBytes.order in let cmp = g.K.Ord.cmp in let is_key = g.K.KeyBytes.is_key in let encoded = g.K.KeyBytes.encoded in let key = c.args.key in
    let law : AgreesBy is_key encoded (cmp key) (encoded key) = λ k is. sorted_agrees (cmp key k) (encoded key) (encoded k) (g.met.K.RadixKey.sorted key k c.requires.key.0 is.0) in
    let head = c.args.head.now.entries in let old = c.args.tree.now.arena in
    let place = c.in-Some.ensures.place in let page = c.swap_in.new.page in
    let new = with_value_at old (slab_key c.in-Some.leaf) page in
    let was = ap (λ (p : _). p.entries) (c.page_mut.ensures.page place) in
    let around = pages-around old c.in-Some.leaf place in
    let changed = pages-changed old new c.in-Some.leaf page place (c.page_mut.ensures.changes place page) in
    ok-weaker c.swap_in.result c.swap_in.ensures.old (λ found is. (key-of-page (cmp key) place.entry.1.entries (map_entries head (pages_of old)) (page-of-query is_key encoded (cmp key) (encoded key) law order head (pages_of old) c.requires.map (pages place.left) (page_of place.entry) (pages place.right) around c.in-Some.ensures.low (anchors-above (encoded key) place.right c.in-Some.ensures.above))) ∙ sym (ap (get_key_by (cmp key)) was) ∙ is)

pub returns-in-Some-clause-absent : goal.returns-in-Some-clause-absent
returns-in-Some-clause-absent g c =
    let order = g.K.KeyBytes.order in let cmp = g.K.Ord.cmp in let is_key = g.K.KeyBytes.is_key in let encoded = g.K.KeyBytes.encoded in let key = c.args.key in
    let law : AgreesBy is_key encoded (cmp key) (encoded key) = λ k is. sorted_agrees (cmp key k) (encoded key) (encoded k) (g.met.K.RadixKey.sorted key k c.requires.key.0 is.0) in
    let head = c.args.head.now.entries in let old = c.args.tree.now.arena in
    let place = c.in-Some.ensures.place in let page = c.swap_in.new.page in
    let new = with_value_at old (slab_key c.in-Some.leaf) page in
    let was = ap (λ (p : _). p.entries) (c.page_mut.ensures.page place) in
    let around = pages-around old c.in-Some.leaf place in
    let changed = pages-changed old new c.in-Some.leaf page place (c.page_mut.ensures.changes place page) in
    err-then c.swap_in.result c.swap_in.ensures.absent (λ none. (key-of-page (cmp key) place.entry.1.entries (map_entries head (pages_of old)) (page-of-query is_key encoded (cmp key) (encoded key) law order head (pages_of old) c.requires.map (pages place.left) (page_of place.entry) (pages place.right) around c.in-Some.ensures.low (anchors-above (encoded key) place.right c.in-Some.ensures.above))) ∙ sym (ap (get_key_by (cmp key)) was) ∙ none)

pub returns-in-None-clause-map : goal.returns-in-None-clause-map
returns-in-None-clause-map g c =
    let order = g.K.KeyBytes.order in let cmp = g.K.Ord.cmp in let is_key = g.K.KeyBytes.is_key in let encoded = g.K.KeyBytes.encoded in let key = c.args.key in
    let law : AgreesBy is_key encoded (cmp key) (encoded key) = λ k is. sorted_agrees (cmp key k) (encoded key) (encoded k) (g.met.K.RadixKey.sorted key k c.requires.key.0 is.0) in
    let head = c.args.head.now.entries in let old = c.args.tree.now.arena in
    let above = anchors-above (encoded key) _ c.in-None.ensures in let now = c.swap_in-in-None.new.page.entries in
    by-result (IsMap order is_key encoded now (pages_of old)) c.swap_in-in-None.result c.swap_in-in-None.ensures.entries c.swap_in-in-None.ensures.same
    (λ swapped. head-swap-map order cmp g.met.K.RadixKey.ordered g.met.K.Ord.total is_key encoded key c.requires.key law head (pages_of old) c.requires.map above now swapped)
    (λ so. subst (λ l. IsMap order is_key encoded l (pages_of old)) (sym so) c.requires.map)

pub returns-in-None-clause-entries : goal.returns-in-None-clause-entries
returns-in-None-clause-entries g c =
    let order = g.K.KeyBytes.order in let cmp = g.K.Ord.cmp in let is_key = g.K.KeyBytes.is_key in let encoded = g.K.KeyBytes.encoded in let key = c.args.key in
    let law : AgreesBy is_key encoded (cmp key) (encoded key) = λ k is. sorted_agrees (cmp key k) (encoded key) (encoded k) (g.met.K.RadixKey.sorted key k c.requires.key.0 is.0) in
    let head = c.args.head.now.entries in let old = c.args.tree.now.arena in
    let above = anchors-above (encoded key) _ c.in-None.ensures in let now = c.swap_in-in-None.new.page.entries in
    ok-then c.swap_in-in-None.result c.swap_in-in-None.ensures.entries (λ swapped. head-swap order cmp g.met.K.RadixKey.ordered g.met.K.Ord.total is_key encoded key c.requires.key law head (pages_of old) c.requires.map above now swapped)

pub returns-in-None-clause-same : goal.returns-in-None-clause-same
returns-in-None-clause-same g c =
    let order = g.K.KeyBytes.order in let cmp = g.K.Ord.cmp in let is_key = g.K.KeyBytes.is_key in let encoded = g.K.KeyBytes.encoded in let key = c.args.key in
    let law : AgreesBy is_key encoded (cmp key) (encoded key) = λ k is. sorted_agrees (cmp key k) (encoded key) (encoded k) (g.met.K.RadixKey.sorted key k c.requires.key.0 is.0) in
    let head = c.args.head.now.entries in let old = c.args.tree.now.arena in
    let above = anchors-above (encoded key) _ c.in-None.ensures in let now = c.swap_in-in-None.new.page.entries in
    err-then c.swap_in-in-None.result c.swap_in-in-None.ensures.same (λ so. ap (λ l. map_entries l (pages_of old)) so)

pub returns-in-None-clause-old : goal.returns-in-None-clause-old
returns-in-None-clause-old g c =
    let order = g.K.KeyBytes.order in let cmp = g.K.Ord.cmp in let is_key = g.K.KeyBytes.is_key in let encoded = g.K.KeyBytes.encoded in let key = c.args.key in
    let law : AgreesBy is_key encoded (cmp key) (encoded key) = λ k is. sorted_agrees (cmp key k) (encoded key) (encoded k) (g.met.K.RadixKey.sorted key k c.requires.key.0 is.0) in
    let head = c.args.head.now.entries in let old = c.args.tree.now.arena in
    let above = anchors-above (encoded key) _ c.in-None.ensures in let now = c.swap_in-in-None.new.page.entries in
    ok-weaker c.swap_in-in-None.result c.swap_in-in-None.ensures.old (λ found is. (key-of-page (cmp key) head (map_entries head (pages_of old)) (head-of-query is_key encoded (cmp key) (encoded key) law order head (pages_of old) c.requires.map above)) ∙ is)

pub returns-in-None-clause-absent : goal.returns-in-None-clause-absent
returns-in-None-clause-absent g c =
    let order = g.K.KeyBytes.order in let cmp = g.K.Ord.cmp in let is_key = g.K.KeyBytes.is_key in let encoded = g.K.KeyBytes.encoded in let key = c.args.key in
    let law : AgreesBy is_key encoded (cmp key) (encoded key) = λ k is. sorted_agrees (cmp key k) (encoded key) (encoded k) (g.met.K.RadixKey.sorted key k c.requires.key.0 is.0) in
    let head = c.args.head.now.entries in let old = c.args.tree.now.arena in
    let above = anchors-above (encoded key) _ c.in-None.ensures in let now = c.swap_in-in-None.new.page.entries in
    err-then c.swap_in-in-None.result c.swap_in-in-None.ensures.absent (λ none. (key-of-page (cmp key) head (map_entries head (pages_of old)) (head-of-query is_key encoded (cmp key) (encoded key) law order head (pages_of old) c.requires.map above)) ∙ none)

use Rattle.std.proofs.Common.{◌∙◌, ap, sym, subst}
use Rattle.std.specs.BTreeMap.{insert_entry}
use Rattle.art_keys.specs.EncodingLaws.{sorted_agrees}
use Rattle.art_pages.specs.Entries.{IsPlaceOf, get_by}
use Rattle.art_arena.specs.Links.{with_value_at}
use Rattle.art_nodes.specs.Pointers.{slab_key}
use Rattle.art_map.specs.Pages.{map_entries, IsMap}
use Rattle.art_map.specs.Spots.{IsSpotInLeaf, IsSpotOver}
use Rattle.art_map.specs.Trees.{page_of, pages_of}
use Rattle.art_map.proofs.PartLemmas.{head-of-query, page-of-query}
use Rattle.art_map.proofs.PutLemmas.{head-entries, head-map, put-map, put-entries, put-same, by-result, ok-then, err-then, found-then}
use Rattle.art_map.proofs.SeatLemmas.{value-of-page}
use Rattle.art_map.proofs.TreeLemmas.{pages, pages-around, pages-changed}
use Rattle.art_map.proofs.put.put_over.Goals as goal

pub returns-in-Some-clause-map : goal.returns-in-Some-clause-map
returns-in-Some-clause-map g c =
    let cmp = g.K.Ord.cmp in let encoded = g.K.KeyBytes.encoded in let key = c.args.key in
    let old = c.args.tree.now.arena in let page = c.put_at.new.page in
    let head = c.args.head.now.entries in
    let spot : IsSpotInLeaf (cmp key) (encoded key) head old c.in-Some.leaf c.find_over-leaf.result.1 =
    subst (λ leaf. IsSpotOver (cmp key) (encoded key) head old leaf c.find_over-leaf.result.1) c.in-Some.is c.find_over-leaf.ensures in
    let place = spot.here in
    let new = with_value_at old (slab_key c.in-Some.leaf) page in
    let was = ap (λ (p : _). p.entries) (c.page_mut.ensures.page place) in
    put-map g.K.KeyBytes.order cmp g.met.K.RadixKey.ordered g.met.K.Ord.total g.K.KeyBytes.is_key encoded key c.args.value c.requires.key
    (λ k is. sorted_agrees (cmp key k) (encoded key) (encoded k) (g.met.K.RadixKey.sorted key k c.requires.key.0 is.0))
    c.args.head.now.entries (pages_of old) c.requires.map (pages place.left) (page_of place.entry) (pages place.right) (pages-around old c.in-Some.leaf place)
    spot.low spot.above
    c.put_at.result page.entries (pages_of new) (pages-changed old new c.in-Some.leaf page place (c.page_mut.ensures.changes place page))
    (ok-then c.put_at.result c.put_at.ensures.entries (λ so. so ∙ ap (λ l. insert_entry cmp l key c.args.value) was))
    (err-then c.put_at.result c.put_at.ensures.same (λ so. so ∙ was))

pub returns-in-Some-clause-entries : goal.returns-in-Some-clause-entries
returns-in-Some-clause-entries g c =
    let cmp = g.K.Ord.cmp in let encoded = g.K.KeyBytes.encoded in let key = c.args.key in
    let old = c.args.tree.now.arena in let page = c.put_at.new.page in
    let head = c.args.head.now.entries in
    let spot : IsSpotInLeaf (cmp key) (encoded key) head old c.in-Some.leaf c.find_over-leaf.result.1 =
    subst (λ leaf. IsSpotOver (cmp key) (encoded key) head old leaf c.find_over-leaf.result.1) c.in-Some.is c.find_over-leaf.ensures in
    let place = spot.here in
    let new = with_value_at old (slab_key c.in-Some.leaf) page in
    let was = ap (λ (p : _). p.entries) (c.page_mut.ensures.page place) in
    put-entries g.K.KeyBytes.order cmp g.met.K.RadixKey.ordered g.met.K.Ord.total g.K.KeyBytes.is_key encoded key c.args.value c.requires.key
    (λ k is. sorted_agrees (cmp key k) (encoded key) (encoded k) (g.met.K.RadixKey.sorted key k c.requires.key.0 is.0))
    c.args.head.now.entries (pages_of old) c.requires.map (pages place.left) (page_of place.entry) (pages place.right) (pages-around old c.in-Some.leaf place)
    spot.low spot.above
    c.put_at.result page.entries (pages_of new) (pages-changed old new c.in-Some.leaf page place (c.page_mut.ensures.changes place page))
    (ok-then c.put_at.result c.put_at.ensures.entries (λ so. so ∙ ap (λ l. insert_entry cmp l key c.args.value) was))

pub returns-in-Some-clause-same : goal.returns-in-Some-clause-same
returns-in-Some-clause-same g c =
    let cmp = g.K.Ord.cmp in let encoded = g.K.KeyBytes.encoded in let key = c.args.key in
    let old = c.args.tree.now.arena in let page = c.put_at.new.page in
    let head = c.args.head.now.entries in
    let spot : IsSpotInLeaf (cmp key) (encoded key) head old c.in-Some.leaf c.find_over-leaf.result.1 =
    subst (λ leaf. IsSpotOver (cmp key) (encoded key) head old leaf c.find_over-leaf.result.1) c.in-Some.is c.find_over-leaf.ensures in
    let place = spot.here in
    let new = with_value_at old (slab_key c.in-Some.leaf) page in
    let was = ap (λ (p : _). p.entries) (c.page_mut.ensures.page place) in
    put-same g.K.KeyBytes.order cmp g.met.K.RadixKey.ordered g.met.K.Ord.total g.K.KeyBytes.is_key encoded key c.args.value c.requires.key
    (λ k is. sorted_agrees (cmp key k) (encoded key) (encoded k) (g.met.K.RadixKey.sorted key k c.requires.key.0 is.0))
    c.args.head.now.entries (pages_of old) c.requires.map (pages place.left) (page_of place.entry) (pages place.right) (pages-around old c.in-Some.leaf place)
    spot.low spot.above
    c.put_at.result page.entries (pages_of new) (pages-changed old new c.in-Some.leaf page place (c.page_mut.ensures.changes place page))
    (err-then c.put_at.result c.put_at.ensures.same (λ so. so ∙ was))

pub returns-in-Some-clause-old : goal.returns-in-Some-clause-old
returns-in-Some-clause-old g c =
    let cmp = g.K.Ord.cmp in let encoded = g.K.KeyBytes.encoded in let key = c.args.key in
    let old = c.args.tree.now.arena in
    let head = c.args.head.now.entries in
    let spot : IsSpotInLeaf (cmp key) (encoded key) head old c.in-Some.leaf c.find_over-leaf.result.1 =
    subst (λ leaf. IsSpotOver (cmp key) (encoded key) head old leaf c.find_over-leaf.result.1) c.in-Some.is c.find_over-leaf.ensures in
    let place = spot.here in
    let was = ap (λ (p : _). get_by (cmp key) p.entries) (c.page_mut.ensures.page place) in
    found-then (cmp key) c.put_at.result _ _ (was ∙ sym (value-of-page (cmp key) place.entry.1.entries (map_entries c.args.head.now.entries (pages_of old))
    (page-of-query g.K.KeyBytes.is_key encoded (cmp key) (encoded key)
    (λ k is. sorted_agrees (cmp key k) (encoded key) (encoded k) (g.met.K.RadixKey.sorted key k c.requires.key.0 is.0))
    g.K.KeyBytes.order c.args.head.now.entries (pages_of old) c.requires.map (pages place.left) (page_of place.entry) (pages place.right) (pages-around old c.in-Some.leaf place)
    spot.low spot.above))) c.put_at.ensures.old

pub returns-in-Some-clause-absent : goal.returns-in-Some-clause-absent
returns-in-Some-clause-absent g c =
    let cmp = g.K.Ord.cmp in let encoded = g.K.KeyBytes.encoded in let key = c.args.key in
    let old = c.args.tree.now.arena in
    let head = c.args.head.now.entries in
    let spot : IsSpotInLeaf (cmp key) (encoded key) head old c.in-Some.leaf c.find_over-leaf.result.1 =
    subst (λ leaf. IsSpotOver (cmp key) (encoded key) head old leaf c.find_over-leaf.result.1) c.in-Some.is c.find_over-leaf.ensures in
    let place = spot.here in
    let was = ap (λ (p : _). get_by (cmp key) p.entries) (c.page_mut.ensures.page place) in
    err-then c.put_at.result c.put_at.ensures.absent (λ none. sym (was ∙ sym (value-of-page (cmp key) place.entry.1.entries (map_entries c.args.head.now.entries (pages_of old))
    (page-of-query g.K.KeyBytes.is_key encoded (cmp key) (encoded key)
    (λ k is. sorted_agrees (cmp key k) (encoded key) (encoded k) (g.met.K.RadixKey.sorted key k c.requires.key.0 is.0))
    g.K.KeyBytes.order c.args.head.now.entries (pages_of old) c.requires.map (pages place.left) (page_of place.entry) (pages place.right) (pages-around old c.in-Some.leaf place)
    spot.low spot.above))) ∙ none)

pub returns-in-None-clause-map : goal.returns-in-None-clause-map
returns-in-None-clause-map g c =
    let cmp = g.K.Ord.cmp in let encoded = g.K.KeyBytes.encoded in let key = c.args.key in let old = c.args.tree.now.arena in
    let head = c.args.head.now.entries in let r = c.put_at-in-None.result in
    let Map = IsMap g.K.KeyBytes.order g.K.KeyBytes.is_key encoded in
    by-result (Map c.put_at-in-None.new.page.entries (pages_of old)) r c.put_at-in-None.ensures.entries c.put_at-in-None.ensures.same
    (λ so. subst (λ l. Map l (pages_of old)) (sym so)
    (head-map g.K.KeyBytes.order cmp g.met.K.RadixKey.ordered g.met.K.Ord.total g.K.KeyBytes.is_key encoded key c.args.value c.requires.key
    (λ k is. sorted_agrees (cmp key k) (encoded key) (encoded k) (g.met.K.RadixKey.sorted key k c.requires.key.0 is.0))
    head (pages_of old) c.requires.map (subst (λ leaf. IsSpotOver (cmp key) (encoded key) c.args.head.now.entries old leaf c.find_over-leaf.result.1) c.in-None.is c.find_over-leaf.ensures).above))
    (λ so. subst (λ l. Map l (pages_of old)) (sym so) c.requires.map)

pub returns-in-None-clause-entries : goal.returns-in-None-clause-entries
returns-in-None-clause-entries g c =
    let cmp = g.K.Ord.cmp in let encoded = g.K.KeyBytes.encoded in let key = c.args.key in let old = c.args.tree.now.arena in
    ok-then c.put_at-in-None.result c.put_at-in-None.ensures.entries
    (λ so. ap (λ l. map_entries l (pages_of old)) so
    ∙ head-entries g.K.KeyBytes.order cmp g.met.K.RadixKey.ordered g.met.K.Ord.total g.K.KeyBytes.is_key encoded key c.args.value c.requires.key
    (λ k is. sorted_agrees (cmp key k) (encoded key) (encoded k) (g.met.K.RadixKey.sorted key k c.requires.key.0 is.0))
    c.args.head.now.entries (pages_of old) c.requires.map (subst (λ leaf. IsSpotOver (cmp key) (encoded key) c.args.head.now.entries old leaf c.find_over-leaf.result.1) c.in-None.is c.find_over-leaf.ensures).above)

pub returns-in-None-clause-old : goal.returns-in-None-clause-old
returns-in-None-clause-old g c =
    let cmp = g.K.Ord.cmp in let encoded = g.K.KeyBytes.encoded in let key = c.args.key in let old = c.args.tree.now.arena in
    found-then (cmp key) c.put_at-in-None.result _ _ (sym (value-of-page (cmp key) c.args.head.now.entries (map_entries c.args.head.now.entries (pages_of old))
    (head-of-query g.K.KeyBytes.is_key encoded (cmp key) (encoded key)
    (λ k is. sorted_agrees (cmp key k) (encoded key) (encoded k) (g.met.K.RadixKey.sorted key k c.requires.key.0 is.0))
    g.K.KeyBytes.order c.args.head.now.entries (pages_of old) c.requires.map (subst (λ leaf. IsSpotOver (cmp key) (encoded key) c.args.head.now.entries old leaf c.find_over-leaf.result.1) c.in-None.is c.find_over-leaf.ensures).above))) c.put_at-in-None.ensures.old

pub returns-in-None-clause-absent : goal.returns-in-None-clause-absent
returns-in-None-clause-absent g c =
    let cmp = g.K.Ord.cmp in let encoded = g.K.KeyBytes.encoded in let key = c.args.key in let old = c.args.tree.now.arena in
    err-then c.put_at-in-None.result c.put_at-in-None.ensures.absent (λ none. value-of-page (cmp key) c.args.head.now.entries (map_entries c.args.head.now.entries (pages_of old))
    (head-of-query g.K.KeyBytes.is_key encoded (cmp key) (encoded key)
    (λ k is. sorted_agrees (cmp key k) (encoded key) (encoded k) (g.met.K.RadixKey.sorted key k c.requires.key.0 is.0))
    g.K.KeyBytes.order c.args.head.now.entries (pages_of old) c.requires.map (subst (λ leaf. IsSpotOver (cmp key) (encoded key) c.args.head.now.entries old leaf c.find_over-leaf.result.1) c.in-None.is c.find_over-leaf.ensures).above) ∙ none)

pub put_at-requires-clause-place : goal.put_at-requires-clause-place
put_at-requires-clause-place g c =
    let cmp = g.K.Ord.cmp in let encoded = g.K.KeyBytes.encoded in let key = c.args.key in
    let head = c.args.head.now.entries in let old = c.args.tree.now.arena in let found = c.find_over-leaf.result.1 in
    let spot : IsSpotInLeaf (cmp key) (encoded key) head old c.in-Some.leaf found = subst (λ leaf. IsSpotOver (cmp key) (encoded key) head old leaf found) c.in-Some.is c.find_over-leaf.ensures in
    subst (λ l. IsPlaceOf (cmp key) l found) (sym (ap (λ (p : _). p.entries) (c.page_mut.ensures.page spot.here))) spot.at

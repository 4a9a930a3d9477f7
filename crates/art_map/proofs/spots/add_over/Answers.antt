use Rattle.std.proofs.Common.{rules, ◌∙◌, Ok, Err, ap, sym, subst}
use Rattle.std.specs.BTreeMap.{insert_entry}
use Rattle.art_keys.specs.EncodingLaws.{sorted_agrees}
use Rattle.art_arena.specs.Links.{with_value_at}
use Rattle.art_nodes.specs.Pointers.{slab_key}
use Rattle.art_pages.specs.Entries.{IsPlaceOf}
use Rattle.art_map.specs.Pages.{map_entries, IsMap}
use Rattle.art_map.specs.Spots.{IsSpotInLeaf, IsSpotInHead, IsSpotOver}
use Rattle.art_map.specs.Trees.{page_of, pages_of}
use Rattle.art_map.proofs.PutLemmas.{head-entries, head-map, put-map, put-entries, put-same, by-result, ok-then, err-then}
use Rattle.art_map.proofs.SpotLemmas.{spot-changed}
use Rattle.art_map.proofs.TreeLemmas.{pages, pages-around, pages-changed}
use Rattle.art_map.proofs.spots.add_over.Goals as goal

pub add_in-requires : goal.add_in-requires
add_in-requires g c =
    let cmp = g.K.Ord.cmp in let key = c.args.key in
    let spot : IsSpotInLeaf (cmp key) (g.K.KeyBytes.encoded key) c.args.head.now.entries c.args.tree.now.arena c.in-Some.leaf (Err c.args.place) =
    subst (λ leaf. IsSpotOver (cmp key) (g.K.KeyBytes.encoded key) c.args.head.now.entries c.args.tree.now.arena leaf (Err c.args.place)) c.in-Some.is c.requires.spot in
    let gap : IsPlaceOf (cmp key) c.page_mut.result.now.entries (Err c.args.place) =
    subst (λ (p : _). IsPlaceOf (cmp key) p.entries (Err c.args.place)) (sym (c.page_mut.ensures.page spot.here)) spot.at in
    search rules

pub add_in-requires-in-None : goal.add_in-requires-in-None
add_in-requires-in-None g c =
    let cmp = g.K.Ord.cmp in let key = c.args.key in
    let spot : IsSpotInHead (cmp key) (g.K.KeyBytes.encoded key) c.args.head.now.entries (pages_of c.args.tree.now.arena) (Err c.args.place) =
    subst (λ leaf. IsSpotOver (cmp key) (g.K.KeyBytes.encoded key) c.args.head.now.entries c.args.tree.now.arena leaf (Err c.args.place)) c.in-None.is c.requires.spot in
    let gap = spot.at in
    search rules

pub returns-in-Some-clause-map : goal.returns-in-Some-clause-map
returns-in-Some-clause-map g c =
    let cmp = g.K.Ord.cmp in let encoded = g.K.KeyBytes.encoded in let key = c.args.key in
    let spot : IsSpotInLeaf (cmp key) (encoded key) c.args.head.now.entries c.args.tree.now.arena c.in-Some.leaf (Err c.args.place) =
    subst (λ leaf. IsSpotOver (cmp key) (encoded key) c.args.head.now.entries c.args.tree.now.arena leaf (Err c.args.place)) c.in-Some.is c.requires.spot in
    let here = spot.here in let old = c.args.tree.now.arena in let page = c.add_in.new.page in
    let new = with_value_at old (slab_key c.in-Some.leaf) page in
    let was = ap (λ (p : _). p.entries) (c.page_mut.ensures.page here) in
    put-map g.K.KeyBytes.order cmp g.met.K.RadixKey.ordered g.met.K.Ord.total g.K.KeyBytes.is_key encoded key c.args.value c.requires.key
    (λ k is. sorted_agrees (cmp key k) (encoded key) (encoded k) (g.met.K.RadixKey.sorted key k c.requires.key.0 is.0))
    c.args.head.now.entries (pages_of old) c.requires.map (pages here.left) (page_of here.entry) (pages here.right) (pages-around old c.in-Some.leaf here)
    spot.low spot.above c.add_in.result page.entries (pages_of new) (pages-changed old new c.in-Some.leaf page here (c.page_mut.ensures.changes here page))
    (ok-then c.add_in.result c.add_in.ensures.entries (λ so. so ∙ ap (λ l. insert_entry cmp l key c.args.value) was))
    (err-then c.add_in.result c.add_in.ensures.same (λ so. so ∙ was))

pub returns-in-Some-clause-entries : goal.returns-in-Some-clause-entries
returns-in-Some-clause-entries g c =
    let cmp = g.K.Ord.cmp in let encoded = g.K.KeyBytes.encoded in let key = c.args.key in
    let spot : IsSpotInLeaf (cmp key) (encoded key) c.args.head.now.entries c.args.tree.now.arena c.in-Some.leaf (Err c.args.place) =
    subst (λ leaf. IsSpotOver (cmp key) (encoded key) c.args.head.now.entries c.args.tree.now.arena leaf (Err c.args.place)) c.in-Some.is c.requires.spot in
    let here = spot.here in let old = c.args.tree.now.arena in let page = c.add_in.new.page in
    let new = with_value_at old (slab_key c.in-Some.leaf) page in
    let was = ap (λ (p : _). p.entries) (c.page_mut.ensures.page here) in
    put-entries g.K.KeyBytes.order cmp g.met.K.RadixKey.ordered g.met.K.Ord.total g.K.KeyBytes.is_key encoded key c.args.value c.requires.key
    (λ k is. sorted_agrees (cmp key k) (encoded key) (encoded k) (g.met.K.RadixKey.sorted key k c.requires.key.0 is.0))
    c.args.head.now.entries (pages_of old) c.requires.map (pages here.left) (page_of here.entry) (pages here.right) (pages-around old c.in-Some.leaf here)
    spot.low spot.above c.add_in.result page.entries (pages_of new) (pages-changed old new c.in-Some.leaf page here (c.page_mut.ensures.changes here page))
    (ok-then c.add_in.result c.add_in.ensures.entries (λ so. so ∙ ap (λ l. insert_entry cmp l key c.args.value) was))

pub returns-in-Some-clause-same : goal.returns-in-Some-clause-same
returns-in-Some-clause-same g c =
    let cmp = g.K.Ord.cmp in let encoded = g.K.KeyBytes.encoded in let key = c.args.key in
    let spot : IsSpotInLeaf (cmp key) (encoded key) c.args.head.now.entries c.args.tree.now.arena c.in-Some.leaf (Err c.args.place) =
    subst (λ leaf. IsSpotOver (cmp key) (encoded key) c.args.head.now.entries c.args.tree.now.arena leaf (Err c.args.place)) c.in-Some.is c.requires.spot in
    let here = spot.here in let old = c.args.tree.now.arena in let page = c.add_in.new.page in
    let new = with_value_at old (slab_key c.in-Some.leaf) page in
    let was = ap (λ (p : _). p.entries) (c.page_mut.ensures.page here) in
    put-same g.K.KeyBytes.order cmp g.met.K.RadixKey.ordered g.met.K.Ord.total g.K.KeyBytes.is_key encoded key c.args.value c.requires.key
    (λ k is. sorted_agrees (cmp key k) (encoded key) (encoded k) (g.met.K.RadixKey.sorted key k c.requires.key.0 is.0))
    c.args.head.now.entries (pages_of old) c.requires.map (pages here.left) (page_of here.entry) (pages here.right) (pages-around old c.in-Some.leaf here)
    spot.low spot.above c.add_in.result page.entries (pages_of new) (pages-changed old new c.in-Some.leaf page here (c.page_mut.ensures.changes here page))
    (err-then c.add_in.result c.add_in.ensures.same (λ so. so ∙ was))

pub returns-in-Some-clause-spot : goal.returns-in-Some-clause-spot
returns-in-Some-clause-spot g c =
    let cmp = g.K.Ord.cmp in let encoded = g.K.KeyBytes.encoded in let key = c.args.key in
    let spot : IsSpotInLeaf (cmp key) (encoded key) c.args.head.now.entries c.args.tree.now.arena c.in-Some.leaf (Err c.args.place) =
    subst (λ leaf. IsSpotOver (cmp key) (encoded key) c.args.head.now.entries c.args.tree.now.arena leaf (Err c.args.place)) c.in-Some.is c.requires.spot in
    let here = spot.here in let old = c.args.tree.now.arena in let page = c.add_in.new.page in
    let new = with_value_at old (slab_key c.in-Some.leaf) page in
    let was = ap (λ (p : _). p.entries) (c.page_mut.ensures.page here) in
    let map =
    put-map g.K.KeyBytes.order cmp g.met.K.RadixKey.ordered g.met.K.Ord.total g.K.KeyBytes.is_key encoded key c.args.value c.requires.key
    (λ k is. sorted_agrees (cmp key k) (encoded key) (encoded k) (g.met.K.RadixKey.sorted key k c.requires.key.0 is.0))
    c.args.head.now.entries (pages_of old) c.requires.map (pages here.left) (page_of here.entry) (pages here.right) (pages-around old c.in-Some.leaf here)
    spot.low spot.above c.add_in.result page.entries (pages_of new) (pages-changed old new c.in-Some.leaf page here (c.page_mut.ensures.changes here page))
    (ok-then c.add_in.result c.add_in.ensures.entries (λ so. so ∙ ap (λ l. insert_entry cmp l key c.args.value) was))
    (err-then c.add_in.result c.add_in.ensures.same (λ so. so ∙ was)) in
    ok-then c.add_in.result c.add_in.ensures.there
    (λ at. subst (λ leaf. IsSpotOver (cmp key) (encoded key) c.args.head.now.entries new leaf (Ok c.args.place)) (sym c.in-Some.is)
    (spot-changed g.K.KeyBytes.order g.K.KeyBytes.is_key encoded (cmp key) (encoded key)
    (λ k is. sorted_agrees (cmp key k) (encoded key) (encoded k) (g.met.K.RadixKey.sorted key k c.requires.key.0 is.0))
    c.args.head.now.entries old new c.in-Some.leaf page map here spot.low spot.above (c.page_mut.ensures.changes here page) (Ok c.args.place) at))

pub returns-in-None-clause-map : goal.returns-in-None-clause-map
returns-in-None-clause-map g c =
    let cmp = g.K.Ord.cmp in let encoded = g.K.KeyBytes.encoded in let key = c.args.key in let old = c.args.tree.now.arena in
    let head = c.args.head.now.entries in let r = c.add_in-in-None.result in
    let spot : IsSpotInHead (cmp key) (encoded key) head (pages_of old) (Err c.args.place) =
    subst (λ leaf. IsSpotOver (cmp key) (encoded key) head old leaf (Err c.args.place)) c.in-None.is c.requires.spot in
    let Map = IsMap g.K.KeyBytes.order g.K.KeyBytes.is_key encoded in
    by-result (Map c.add_in-in-None.new.page.entries (pages_of old)) r c.add_in-in-None.ensures.entries c.add_in-in-None.ensures.same
    (λ so. subst (λ l. Map l (pages_of old)) (sym so)
    (head-map g.K.KeyBytes.order cmp g.met.K.RadixKey.ordered g.met.K.Ord.total g.K.KeyBytes.is_key encoded key c.args.value c.requires.key
    (λ k is. sorted_agrees (cmp key k) (encoded key) (encoded k) (g.met.K.RadixKey.sorted key k c.requires.key.0 is.0))
    head (pages_of old) c.requires.map spot.above))
    (λ so. subst (λ l. Map l (pages_of old)) (sym so) c.requires.map)

pub returns-in-None-clause-entries : goal.returns-in-None-clause-entries
returns-in-None-clause-entries g c =
    let cmp = g.K.Ord.cmp in let encoded = g.K.KeyBytes.encoded in let key = c.args.key in let old = c.args.tree.now.arena in
    let head = c.args.head.now.entries in
    let spot : IsSpotInHead (cmp key) (encoded key) head (pages_of old) (Err c.args.place) =
    subst (λ leaf. IsSpotOver (cmp key) (encoded key) head old leaf (Err c.args.place)) c.in-None.is c.requires.spot in
    ok-then c.add_in-in-None.result c.add_in-in-None.ensures.entries
    (λ so. ap (λ l. map_entries l (pages_of old)) so
    ∙ head-entries g.K.KeyBytes.order cmp g.met.K.RadixKey.ordered g.met.K.Ord.total g.K.KeyBytes.is_key encoded key c.args.value c.requires.key
    (λ k is. sorted_agrees (cmp key k) (encoded key) (encoded k) (g.met.K.RadixKey.sorted key k c.requires.key.0 is.0))
    head (pages_of old) c.requires.map spot.above)

pub returns-in-None-clause-same : goal.returns-in-None-clause-same
returns-in-None-clause-same g c =
    err-then c.add_in-in-None.result c.add_in-in-None.ensures.same (λ so. ap (λ l. map_entries l (pages_of c.args.tree.now.arena)) so)

pub returns-in-None-clause-spot : goal.returns-in-None-clause-spot
returns-in-None-clause-spot g c =
    let cmp = g.K.Ord.cmp in let encoded = g.K.KeyBytes.encoded in let key = c.args.key in let old = c.args.tree.now.arena in
    let head = c.args.head.now.entries in let r = c.add_in-in-None.result in let now = c.add_in-in-None.new.page.entries in
    let spot : IsSpotInHead (cmp key) (encoded key) head (pages_of old) (Err c.args.place) =
    subst (λ leaf. IsSpotOver (cmp key) (encoded key) head old leaf (Err c.args.place)) c.in-None.is c.requires.spot in
    ok-then r c.add_in-in-None.ensures.there
    (λ at. subst (λ leaf. IsSpotOver (cmp key) (encoded key) now old leaf (Ok c.args.place)) (sym c.in-None.is)
    (record { at = at; behind = spot.behind; above = spot.above }))

use Rattle.std.proofs.Common.{rules, ◌∙◌, ap, sym, subst}
use Rattle.std.specs.BTreeMap.{is_at}
use Rattle.std.specs.Map.{remove_entry}
use Rattle.art_pages.specs.Entries.{IsPlaceOf, get_by, get_key_by}
use Rattle.art_arena.specs.Links.{with_value_at}
use Rattle.art_nodes.specs.Pointers.{slab_key}
use Rattle.art_index.specs.Places.{IsPlaced}
use Rattle.art_map.specs.Pages.{map_entries, IsMap}
use Rattle.art_map.specs.Spots.{IsSpotInLeaf, IsSpotOver}
use Rattle.art_map.specs.Trees.{page_of, pages_of}
use Rattle.art_map.proofs.PartLemmas.{head-of-query, page-of-query}
use Rattle.art_map.proofs.SeatLemmas.{value-of-page, key-of-page}
use Rattle.art_map.proofs.TakeLemmas.{head-left, head-map, page-left, page-map}
use Rattle.art_map.proofs.TreeLemmas.{pages, pages-around, pages-changed}
use Rattle.art_map.proofs.take.take_over.Goals as goal

pub settle-requires : goal.settle-requires
settle-requires g c =
    let compare = g.Q.RadixQuery.compare c.args.query in let x = g.Q.RadixQuery.encoded c.args.query in
    let is_key = g.K.KeyBytes.is_key in let encoded = g.K.KeyBytes.encoded in let order = g.K.KeyBytes.order in
    let head = c.args.head.now.entries in let old = c.args.tree.now.arena in
    let found = c.find_over-leaf.result.1 in
    let spot : IsSpotInLeaf compare x head old c.in-Some.leaf found = subst (λ leaf. IsSpotOver compare x head old leaf found) c.in-Some.is c.find_over-leaf.ensures in
    let place = spot.here in let page = c.take_at-taken.new.page in
    let new = with_value_at old (slab_key c.in-Some.leaf) page in
    let was = ap (λ (p : _). p.entries) (c.page_mut.ensures.page place) in
    let map : IsMap order is_key encoded head (pages_of new) =
    page-map order is_key encoded compare x (λ k is. g.met.Q.RadixQuery.agrees c.args.query k c.encoded_len-len.ensures.query is.0 is.1)
    head (pages_of old) c.requires (pages place.left) (page_of place.entry) (pages place.right) (pages-around old c.in-Some.leaf place)
    spot.low spot.above
    page.entries (c.take_at-taken.ensures.entries ∙ ap (remove_entry (is_at compare)) was)
    (pages_of new) (pages-changed old new c.in-Some.leaf page place (c.page_mut.ensures.changes place page)) in
    let leaf : IsPlaced (λ anchor. anchor) new c.in-Some.leaf = (c.page_mut.ensures.changes place page).0 in
    search rules

pub returns-in-Some-clause-entries : goal.returns-in-Some-clause-entries
returns-in-Some-clause-entries g c =
    let compare = g.Q.RadixQuery.compare c.args.query in let x = g.Q.RadixQuery.encoded c.args.query in
    let is_key = g.K.KeyBytes.is_key in let encoded = g.K.KeyBytes.encoded in let order = g.K.KeyBytes.order in
    let head = c.args.head.now.entries in let old = c.args.tree.now.arena in
    let found = c.find_over-leaf.result.1 in
    let spot : IsSpotInLeaf compare x head old c.in-Some.leaf found = subst (λ leaf. IsSpotOver compare x head old leaf found) c.in-Some.is c.find_over-leaf.ensures in
    let place = spot.here in let page = c.take_at-taken.new.page in
    let new = with_value_at old (slab_key c.in-Some.leaf) page in
    let was = ap (λ (p : _). p.entries) (c.page_mut.ensures.page place) in
    c.settle.ensures.same ∙ page-left order is_key encoded compare x (λ k is. g.met.Q.RadixQuery.agrees c.args.query k c.encoded_len-len.ensures.query is.0 is.1)
    head (pages_of old) c.requires (pages place.left) (page_of place.entry) (pages place.right) (pages-around old c.in-Some.leaf place)
    spot.low spot.above
    page.entries (c.take_at-taken.ensures.entries ∙ ap (remove_entry (is_at compare)) was)
    (pages_of new) (pages-changed old new c.in-Some.leaf page place (c.page_mut.ensures.changes place page))

pub returns-in-Some-clause-key : goal.returns-in-Some-clause-key
returns-in-Some-clause-key g c =
    let compare = g.Q.RadixQuery.compare c.args.query in let x = g.Q.RadixQuery.encoded c.args.query in
    let is_key = g.K.KeyBytes.is_key in let encoded = g.K.KeyBytes.encoded in let order = g.K.KeyBytes.order in
    let head = c.args.head.now.entries in let old = c.args.tree.now.arena in
    let found = c.find_over-leaf.result.1 in
    let spot : IsSpotInLeaf compare x head old c.in-Some.leaf found = subst (λ leaf. IsSpotOver compare x head old leaf found) c.in-Some.is c.find_over-leaf.ensures in
    let place = spot.here in
    let was = ap (λ (p : _). get_key_by compare p.entries) (c.page_mut.ensures.page place) in
    c.take_at-taken.ensures.key ∙ was
    ∙ sym (key-of-page compare place.entry.1.entries (map_entries head (pages_of old))
    (page-of-query is_key encoded compare x (λ k is. g.met.Q.RadixQuery.agrees c.args.query k c.encoded_len-len.ensures.query is.0 is.1)
    order head (pages_of old) c.requires (pages place.left) (page_of place.entry) (pages place.right) (pages-around old c.in-Some.leaf place)
    spot.low spot.above))

pub returns-in-Some-clause-value : goal.returns-in-Some-clause-value
returns-in-Some-clause-value g c =
    let compare = g.Q.RadixQuery.compare c.args.query in let x = g.Q.RadixQuery.encoded c.args.query in
    let is_key = g.K.KeyBytes.is_key in let encoded = g.K.KeyBytes.encoded in let order = g.K.KeyBytes.order in
    let head = c.args.head.now.entries in let old = c.args.tree.now.arena in
    let found = c.find_over-leaf.result.1 in
    let spot : IsSpotInLeaf compare x head old c.in-Some.leaf found = subst (λ leaf. IsSpotOver compare x head old leaf found) c.in-Some.is c.find_over-leaf.ensures in
    let place = spot.here in
    let was = ap (λ (p : _). get_by compare p.entries) (c.page_mut.ensures.page place) in
    c.take_at-taken.ensures.value ∙ was
    ∙ sym (value-of-page compare place.entry.1.entries (map_entries head (pages_of old))
    (page-of-query is_key encoded compare x (λ k is. g.met.Q.RadixQuery.agrees c.args.query k c.encoded_len-len.ensures.query is.0 is.1)
    order head (pages_of old) c.requires (pages place.left) (page_of place.entry) (pages place.right) (pages-around old c.in-Some.leaf place)
    spot.low spot.above))

pub returns-in-None-clause-map : goal.returns-in-None-clause-map
returns-in-None-clause-map g c =
    let compare = g.Q.RadixQuery.compare c.args.query in let x = g.Q.RadixQuery.encoded c.args.query in
    let is_key = g.K.KeyBytes.is_key in let encoded = g.K.KeyBytes.encoded in let order = g.K.KeyBytes.order in
    let head = c.args.head.now.entries in let old = c.args.tree.now.arena in
    subst (λ l. IsMap order is_key encoded l (pages_of old)) (sym c.take_at.ensures.entries)
    (head-map order is_key encoded compare x (λ k is. g.met.Q.RadixQuery.agrees c.args.query k c.encoded_len-len.ensures.query is.0 is.1)
    head (pages_of old) c.requires (subst (λ leaf. IsSpotOver compare x head old leaf c.find_over-leaf.result.1) c.in-None.is c.find_over-leaf.ensures).above)

pub returns-in-None-clause-entries : goal.returns-in-None-clause-entries
returns-in-None-clause-entries g c =
    let compare = g.Q.RadixQuery.compare c.args.query in let x = g.Q.RadixQuery.encoded c.args.query in
    let is_key = g.K.KeyBytes.is_key in let encoded = g.K.KeyBytes.encoded in let order = g.K.KeyBytes.order in
    let head = c.args.head.now.entries in let old = c.args.tree.now.arena in
    ap (λ l. map_entries l (pages_of old)) c.take_at.ensures.entries
    ∙ head-left order is_key encoded compare x (λ k is. g.met.Q.RadixQuery.agrees c.args.query k c.encoded_len-len.ensures.query is.0 is.1)
    head (pages_of old) c.requires (subst (λ leaf. IsSpotOver compare x head old leaf c.find_over-leaf.result.1) c.in-None.is c.find_over-leaf.ensures).above

pub returns-in-None-clause-key : goal.returns-in-None-clause-key
returns-in-None-clause-key g c =
    let compare = g.Q.RadixQuery.compare c.args.query in let x = g.Q.RadixQuery.encoded c.args.query in
    let is_key = g.K.KeyBytes.is_key in let encoded = g.K.KeyBytes.encoded in let order = g.K.KeyBytes.order in
    let head = c.args.head.now.entries in let old = c.args.tree.now.arena in
    c.take_at.ensures.key
    ∙ sym (key-of-page compare head (map_entries head (pages_of old))
    (head-of-query is_key encoded compare x (λ k is. g.met.Q.RadixQuery.agrees c.args.query k c.encoded_len-len.ensures.query is.0 is.1)
    order head (pages_of old) c.requires (subst (λ leaf. IsSpotOver compare x head old leaf c.find_over-leaf.result.1) c.in-None.is c.find_over-leaf.ensures).above))

pub returns-in-None-clause-value : goal.returns-in-None-clause-value
returns-in-None-clause-value g c =
    let compare = g.Q.RadixQuery.compare c.args.query in let x = g.Q.RadixQuery.encoded c.args.query in
    let is_key = g.K.KeyBytes.is_key in let encoded = g.K.KeyBytes.encoded in let order = g.K.KeyBytes.order in
    let head = c.args.head.now.entries in let old = c.args.tree.now.arena in
    c.take_at.ensures.value
    ∙ sym (value-of-page compare head (map_entries head (pages_of old))
    (head-of-query is_key encoded compare x (λ k is. g.met.Q.RadixQuery.agrees c.args.query k c.encoded_len-len.ensures.query is.0 is.1)
    order head (pages_of old) c.requires (subst (λ leaf. IsSpotOver compare x head old leaf c.find_over-leaf.result.1) c.in-None.is c.find_over-leaf.ensures).above))

pub take_at-taken-requires : goal.take_at-taken-requires
take_at-taken-requires g c =
    let compare = g.Q.RadixQuery.compare c.args.query in let x = g.Q.RadixQuery.encoded c.args.query in
    let head = c.args.head.now.entries in let old = c.args.tree.now.arena in
    let found = c.find_over-leaf.result.1 in
    let spot : IsSpotInLeaf compare x head old c.in-Some.leaf found = subst (λ leaf. IsSpotOver compare x head old leaf found) c.in-Some.is c.find_over-leaf.ensures in
    let place = spot.here in
    subst (λ l. IsPlaceOf compare l found) (sym (ap (λ (p : _). p.entries) (c.page_mut.ensures.page place))) spot.at

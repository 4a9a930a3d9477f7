use Rattle.std.proofs.Common.{◌≡◌, ◌∙◌, ◌<◌, ◌/◌, Some, length, slice_get, take, drop, arith, ap, sym, subst}
use Rattle.std.specs.Option.{option_map}
use Rattle.art_arena.specs.Links.{with_value_at}
use Rattle.art_nodes.specs.Pointers.{slab_key}
use Rattle.art_map.specs.Pages.{map_entries, IsMap}
use Rattle.art_map.proofs.RoomLemmas.{anchors-changed, half-some, half-within, never-refused, page-halves, page-halves-entries, pages-same, room-kept}
use Rattle.art_map.proofs.room.cut_page.Goals as goal

pub key_at-requires : goal.key_at-requires
key_at-requires g c =
    let place = c.requires.leaf in let full = c.page.result.1.now in
    half-within c.len-middle.result (length full.entries) c.len-middle.ensures.len
    (subst (λ (p : _). 1 < length p.entries) (sym (ap (λ (e : _). e.1) (c.page.ensures place))) (c.requires.some place))

pub split_off-requires : goal.split_off-requires
split_off-requires g c =
    let place = c.requires.leaf in
    let within =
    half-within c.len-middle.result (length c.page_mut.result.now.entries)
    (c.len-middle.ensures.len ∙ ap (λ (p : _). length p.entries) (ap (λ (e : _). e.1) (c.page.ensures place) ∙ sym (c.page_mut.ensures.page place)))
    (subst (λ (p : _). 1 < length p.entries) (sym (c.page_mut.ensures.page place)) (c.requires.some place)) in omega (arith, within)

pub returns-in_err-upper-clause-map : goal.returns-in_err-upper-clause-map
returns-in_err-upper-clause-map g c =
    let place = c.requires.leaf in let old = c.args.tree.now.arena in let low = c.split_off.new.self in
    subst (IsMap g.K.KeyBytes.order g.K.KeyBytes.is_key g.K.KeyBytes.encoded c.args._head.now.entries)
    (sym (pages-same old (with_value_at old (slab_key c.args.leaf) low) c.args.leaf place low (c.page_mut.ensures.changes place low)
    (c.in_err-upper.ensures.unchanged ∙ ap (λ (p : _). p.entries) (c.page_mut.ensures.page place)))) c.requires.map

pub returns-in_err-upper-clause-same : goal.returns-in_err-upper-clause-same
returns-in_err-upper-clause-same g c =
    let place = c.requires.leaf in let old = c.args.tree.now.arena in let low = c.split_off.new.self in
    ap (map_entries c.args._head.now.entries)
    (pages-same old (with_value_at old (slab_key c.args.leaf) low) c.args.leaf place low (c.page_mut.ensures.changes place low)
    (c.in_err-upper.ensures.unchanged ∙ ap (λ (p : _). p.entries) (c.page_mut.ensures.page place)))

pub unreachable-requires : goal.unreachable-requires
unreachable-requires g c =
    let place = c.requires.leaf in let old = c.args.tree.now.arena in let low = c.split_off.new.self in
    let mid = with_value_at old (slab_key c.args.leaf) low in
    never-refused g.K.KeyBytes.is_key g.K.KeyBytes.encoded mid
    (anchors-changed old mid c.args.leaf place low (c.page_mut.ensures.changes place low) g.K.KeyBytes.is_key g.K.KeyBytes.encoded c.requires.map.anchors)
    (c.encodings_never_clash.ensures mid)
    c.page.result.1.now.entries c.len-middle.ensures.keys (c.len-middle.result / 2) c.key_at.result.now c.key_at.ensures
    c.in_ok-anchor.anchor c.in_ok-anchor.ensures.bytes c.in-Err.field-0.refusal
    (c.in-Err.ensures.room_suffices 0 (room-kept old (slab_key c.args.leaf) low 1 c.requires.room)) c.in-Err.ensures.refusal_due

pub returns-clause-map : goal.returns-clause-map
returns-clause-map g c =
    let place = c.requires.leaf in let old = c.args.tree.now.arena in let low = c.split_off.new.self in
    let mid = with_value_at old (slab_key c.args.leaf) low in let middle = c.len-middle.result / 2 in
    let same-page = ap (λ (e : _). e.1) (c.page.ensures place) in
    let len = c.len-middle.ensures.len ∙ ap (λ (p : _). length p.entries) same-page in
    let was = ap (λ (p : _). p.entries) (c.page_mut.ensures.page place) in
    page-halves g.K.KeyBytes.order g.K.Ord.cmp g.met.K.RadixKey.ordered g.met.K.Ord.total g.K.KeyBytes.is_key g.K.KeyBytes.encoded g.met.K.RadixKey.sorted
    c.args._head.now.entries old mid c.add_page.new.tree.arena c.requires.map c.args.leaf place low (c.page_mut.ensures.changes place low)
    middle (half-some c.len-middle.result (length place.entry.1.entries) len (c.requires.some place)) (half-within c.len-middle.result (length place.entry.1.entries) len (c.requires.some place))
    (c.in_ok-upper.ensures.lower ∙ ap (λ l. take middle l) was)
    c.key_at.result.now (subst (λ (p : _). option_map (λ entry. entry.0) (slice_get p.entries middle) ≡ Some c.key_at.result.now) same-page c.key_at.ensures)
    c.in_ok-anchor.anchor c.in_ok-anchor.ensures.bytes c.in_ok-upper.upper (c.in_ok-upper.ensures.upper ∙ ap (λ l. drop middle l) was) c.in-Ok.ensures.added

pub returns-clause-same : goal.returns-clause-same
returns-clause-same g c =
    let place = c.requires.leaf in let old = c.args.tree.now.arena in let low = c.split_off.new.self in
    let mid = with_value_at old (slab_key c.args.leaf) low in let middle = c.len-middle.result / 2 in
    let same-page = ap (λ (e : _). e.1) (c.page.ensures place) in
    let len = c.len-middle.ensures.len ∙ ap (λ (p : _). length p.entries) same-page in
    let was = ap (λ (p : _). p.entries) (c.page_mut.ensures.page place) in
    page-halves-entries g.K.KeyBytes.order g.K.Ord.cmp g.met.K.RadixKey.ordered g.met.K.Ord.total g.K.KeyBytes.is_key g.K.KeyBytes.encoded g.met.K.RadixKey.sorted
    c.args._head.now.entries old mid c.add_page.new.tree.arena c.requires.map c.args.leaf place low (c.page_mut.ensures.changes place low)
    middle (half-some c.len-middle.result (length place.entry.1.entries) len (c.requires.some place)) (half-within c.len-middle.result (length place.entry.1.entries) len (c.requires.some place))
    (c.in_ok-upper.ensures.lower ∙ ap (λ l. take middle l) was)
    c.key_at.result.now (subst (λ (p : _). option_map (λ entry. entry.0) (slice_get p.entries middle) ≡ Some c.key_at.result.now) same-page c.key_at.ensures)
    c.in_ok-anchor.anchor c.in_ok-anchor.ensures.bytes c.in_ok-upper.upper (c.in_ok-upper.ensures.upper ∙ ap (λ l. drop middle l) was) c.in-Ok.ensures.added

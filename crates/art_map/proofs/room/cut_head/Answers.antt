use Rattle.std.proofs.Common.{◌∙◌, ◌/◌, ap, sym, subst}
use Rattle.art_map.specs.Pages.{map_entries, IsMap}
use Rattle.art_map.specs.Trees.{pages_of}
use Rattle.art_map.proofs.RoomLemmas.{head-halves, head-halves-entries, never-refused}
use Rattle.art_map.proofs.room.cut_head.Goals as goal

pub unreachable-requires : goal.unreachable-requires
unreachable-requires g c =
    let old = c.args.tree.now.arena in
    never-refused g.K.KeyBytes.is_key g.K.KeyBytes.encoded old c.requires.map.anchors (c.encodings_never_clash.ensures old)
    c.args.head.now.entries c.len-middle.ensures.keys (c.len-middle.result / 2) c.key_at.result.now c.key_at.ensures
    c.in_ok-anchor.anchor c.in_ok-anchor.ensures.bytes c.in-Err.field-0.refusal (c.in-Err.ensures.room_suffices 0 c.requires.room) c.in-Err.ensures.refusal_due

pub returns-clause-map : goal.returns-clause-map
returns-clause-map g c =
    let old = c.args.tree.now.arena in let new = c.add_page.new.tree.arena in
    subst (λ l. IsMap g.K.KeyBytes.order g.K.KeyBytes.is_key g.K.KeyBytes.encoded l (pages_of new)) (sym c.in_ok-upper.ensures.lower)
    (head-halves g.K.KeyBytes.order g.K.Ord.cmp g.met.K.RadixKey.ordered g.met.K.Ord.total g.K.KeyBytes.is_key g.K.KeyBytes.encoded g.met.K.RadixKey.sorted
    c.args.head.now.entries old new c.requires.map (c.len-middle.result / 2) c.key_at.result.now c.key_at.ensures
    c.in_ok-anchor.anchor c.in_ok-anchor.ensures.bytes c.in_ok-upper.upper c.in_ok-upper.ensures.upper c.in-Ok.ensures.added)

pub returns-clause-same : goal.returns-clause-same
returns-clause-same g c =
    let old = c.args.tree.now.arena in let new = c.add_page.new.tree.arena in
    ap (λ l. map_entries l (pages_of new)) c.in_ok-upper.ensures.lower
    ∙ head-halves-entries g.K.KeyBytes.order g.K.Ord.cmp g.met.K.RadixKey.ordered g.met.K.Ord.total g.K.KeyBytes.is_key g.K.KeyBytes.encoded g.met.K.RadixKey.sorted
    c.args.head.now.entries old new c.requires.map (c.len-middle.result / 2) c.key_at.result.now c.key_at.ensures
    c.in_ok-anchor.anchor c.in_ok-anchor.ensures.bytes c.in_ok-upper.upper c.in_ok-upper.ensures.upper c.in-Ok.ensures.added

use Rattle.std.proofs.Common.{◌∙◌, arith, ap, sym, subst}
use Rattle.art_arena.specs.Links.{with_value_at}
use Rattle.art_nodes.specs.Pointers.{slab_key}
use Rattle.art_map.specs.Pages.{map_entries, IsMap}
use Rattle.art_map.proofs.RoomLemmas.{pages-kept, pages-same}
use Rattle.art_map.proofs.room.make_room_over.Goals as goal

pub returns-then-len-lt-MOST-clause-map : goal.returns-then-len-lt-MOST-clause-map
returns-then-len-lt-MOST-clause-map g c =
    let place = c.in-Some.ensures.place in let old = c.args.tree.now.arena in let now = c.grow.new.page in
    subst (IsMap g.K.KeyBytes.order g.K.KeyBytes.is_key g.K.KeyBytes.encoded c.args.head.now.entries)
    (sym (pages-same old (with_value_at old (slab_key c.in-Some.leaf) now) c.in-Some.leaf place now (c.page_mut.ensures.changes place now)
    (c.grow.ensures ∙ ap (λ (p : _). p.entries) (c.page_mut.ensures.page place)))) c.requires.map

pub returns-then-len-lt-MOST-clause-same : goal.returns-then-len-lt-MOST-clause-same
returns-then-len-lt-MOST-clause-same g c =
    let place = c.in-Some.ensures.place in let old = c.args.tree.now.arena in let now = c.grow.new.page in
    ap (map_entries c.args.head.now.entries)
    (pages-same old (with_value_at old (slab_key c.in-Some.leaf) now) c.in-Some.leaf place now (c.page_mut.ensures.changes place now)
    (c.grow.ensures ∙ ap (λ (p : _). p.entries) (c.page_mut.ensures.page place)))

pub returns-in_err-reserve_entries-clause-map : goal.returns-in_err-reserve_entries-clause-map
returns-in_err-reserve_entries-clause-map g c =
    subst (IsMap g.K.KeyBytes.order g.K.KeyBytes.is_key g.K.KeyBytes.encoded c.args.head.now.entries)
    (sym (pages-kept c.args.tree.now.arena c.reserve_entries.new.self.arena c.in_err-reserve_entries.ensures.same_entries)) c.requires.map

pub returns-in_err-reserve_entries-clause-same : goal.returns-in_err-reserve_entries-clause-same
returns-in_err-reserve_entries-clause-same g c =
    ap (map_entries c.args.head.now.entries) (pages-kept c.args.tree.now.arena c.reserve_entries.new.self.arena c.in_err-reserve_entries.ensures.same_entries)

pub cut-requires : goal.cut-requires
cut-requires g c =
    let map =
    subst (IsMap g.K.KeyBytes.order g.K.KeyBytes.is_key g.K.KeyBytes.encoded c.args.head.now.entries)
    (sym (pages-kept c.args.tree.now.arena c.reserve_entries.new.self.arena c.in_ok-reserve_entries.ensures.same_entries)) c.requires.map in
    (omega arith, (omega arith, (omega arith, (omega arith, (omega arith, (map, (c.requires.key, c.in_ok-reserve_entries.ensures.room)))))))

pub returns-clause-same : goal.returns-clause-same
returns-clause-same g c =
    c.cut.ensures.same
    ∙ ap (map_entries c.args.head.now.entries) (pages-kept c.args.tree.now.arena c.reserve_entries.new.self.arena c.in_ok-reserve_entries.ensures.same_entries)

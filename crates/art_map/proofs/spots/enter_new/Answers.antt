use Rattle.std.proofs.Common.{rules, ◌≡◌, ◌∙◌, None, sym, ap, subst}
use Rattle.art_pages.specs.Entries.{get_by}
use Rattle.art_map.specs.Pages.{map_entries}
use Rattle.art_map.specs.Trees.{pages_in, pages_of}
use Rattle.art_map.proofs.SpotLemmas.{spot-none}
use Rattle.art_map.proofs.spots.enter_new.Goals as goal

pub enter_with_room-requires : goal.enter_with_room-requires
enter_with_room-requires g c =
    let cmp = g.K.Ord.cmp in let key = c.args.key in
    let none : get_by (cmp key) (map_entries c.make_room.new.head.entries (pages_in (λ tree. pages_of tree.value.arena) c.make_room.new.tree)) ≡ None =
    ap (get_by (cmp key)) (c.make_room.ensures.same ∙ c.in-Err.ensures.same)
    ∙ spot-none (λ tree. tree.value.arena) (g.K.KeyBytes.encoded key) c.args.head.now.entries (cmp key) c.args.place c.args.tree.now c.args.leaf c.requires.spot in
    let same : c.in-Err.back.0 ≡ key = ap (λ (p : _). p.0) c.in-Err.ensures.returned in
    let absent : get_by (cmp c.in-Err.back.0) (map_entries c.make_room.new.head.entries (pages_in (λ tree. pages_of tree.value.arena) c.make_room.new.tree)) ≡ None =
    subst (λ k. get_by (cmp k) (map_entries c.make_room.new.head.entries (pages_in (λ tree. pages_of tree.value.arena) c.make_room.new.tree)) ≡ None) (sym same) none in
    search rules

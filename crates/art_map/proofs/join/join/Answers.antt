use Rattle.std.proofs.Common.{rules, ◌≡◌, ◌∙◌, true, false, ap}
use Rattle.art_arena.specs.Links.{with_value_at}
use Rattle.art_index.specs.Places.{IsPlaced}
use Rattle.art_nodes.specs.Pointers.{slab_key}
use Rattle.art_map.proofs.JoinLemmas.{leaves-joined, leaves-same, ordered-leaves, room-there}
use Rattle.art_map.proofs.join.join.Goals as goal

pub page_mut-requires : goal.page_mut-requires
page_mut-requires g c =
    let two = c.requires.leaves in
    let stays : IsPlaced (λ anchor. anchor) c.take_page.new.tree.arena c.args.first =
    (c.in-Ok.ensures.previous_stays two.high c.args.first two.low two.right).0 in
    search rules

pub append-requires : goal.append-requires
append-requires g c =
    let two = c.requires.leaves in
    let stays = c.in-Ok.ensures.previous_stays two.high c.args.first two.low two.right in
    ordered-leaves c.args.tree.now.arena c.args.first c.args.second two c.page_mut.result.now c.in-Ok.upper
    (c.page_mut.ensures.page stays.0 ∙ ap (λ (e : _ × _). e.1) stays.2) (ap (λ (e : _ × _). e.1.entries) (c.in-Ok.ensures.taken two.high).0)
    g.K.KeyBytes.order g.K.KeyBytes.is_key g.K.KeyBytes.encoded c.args._head.now.entries c.requires.map g.K.Ord.cmp g.met.K.RadixKey.ordered

no-refusal : false ≡ true → ⊥
no-refusal is = cc

pub unreachable-requires : goal.unreachable-requires
unreachable-requires g c =
    let two = c.requires.leaves in
    let stays = c.in-Ok.ensures.previous_stays two.high c.args.first two.low two.right in
    no-refusal (c.in-Err.ensures.with_room
    (room-there c.args.tree.now.arena c.args.first c.args.second two c.page_mut.result.now c.in-Ok.upper
    (c.page_mut.ensures.page stays.0 ∙ ap (λ (e : _ × _). e.1) stays.2) (ap (λ (e : _ × _). e.1.entries) (c.in-Ok.ensures.taken two.high).0)))

pub returns-in-Ok-append-clause-map : goal.returns-in-Ok-append-clause-map
returns-in-Ok-append-clause-map g c =
    let two = c.requires.leaves in let mid = c.take_page.new.tree.arena in let whole = c.append.new.self in
    let stays = c.in-Ok.ensures.previous_stays two.high c.args.first two.low two.right in
    leaves-joined c.args.tree.now.arena c.args.first c.args.second two c.page_mut.result.now c.in-Ok.upper
    (c.page_mut.ensures.page stays.0 ∙ ap (λ (e : _ × _). e.1) stays.2) (ap (λ (e : _ × _). e.1.entries) (c.in-Ok.ensures.taken two.high).0)
    g.K.KeyBytes.order g.K.KeyBytes.is_key g.K.KeyBytes.encoded c.args._head.now.entries c.requires.map
    mid (with_value_at mid (slab_key c.args.first) whole) whole c.in-Ok-append.ensures.entries stays (c.page_mut.ensures.changes stays.0 whole)

pub returns-in-Ok-append-clause-same : goal.returns-in-Ok-append-clause-same
returns-in-Ok-append-clause-same g c =
    let two = c.requires.leaves in let mid = c.take_page.new.tree.arena in let whole = c.append.new.self in
    let stays = c.in-Ok.ensures.previous_stays two.high c.args.first two.low two.right in
    leaves-same c.args.tree.now.arena c.args.first c.args.second two c.page_mut.result.now c.in-Ok.upper
    (c.page_mut.ensures.page stays.0 ∙ ap (λ (e : _ × _). e.1) stays.2) (ap (λ (e : _ × _). e.1.entries) (c.in-Ok.ensures.taken two.high).0)
    g.K.KeyBytes.order g.K.KeyBytes.is_key g.K.KeyBytes.encoded c.args._head.now.entries c.requires.map
    mid (with_value_at mid (slab_key c.args.first) whole) whole c.in-Ok-append.ensures.entries stays (c.page_mut.ensures.changes stays.0 whole)

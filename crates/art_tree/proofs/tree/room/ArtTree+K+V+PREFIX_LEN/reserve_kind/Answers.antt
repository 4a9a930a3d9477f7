use Rattle.art_tree.proofs.Names.{◌≡◌, ◌∙◌, ◌+◌, ◌≤◌, min, ap, subst, arith, on_ok_weaker, leaf_count, room, most_nodes, HasRoomOf, LeafKind}
use Rattle.art_tree.proofs.SharedLemmas.RoomLasts.{kept-count, kept-room, reserved-room}
use Rattle.art_tree.proofs.SharedLemmas.EntryCounts.{art-counted}
use Rattle.art_tree.proofs.tree.room.ArtTree+K+V+PREFIX_LEN.reserve_kind.Goals as goal

pub returns-clause-room : goal.returns-clause-room
returns-clause-room g c =
    let old = c.args.self.now.arena in
    let new = c.reserve.new.self.arena in
    let kind = c.args.kind in
    let count = c.args.additional in
    let same = kept-count g.K.AsBytes.text old new c.args.self.now.root c.root-root.ensures.one_tree c.reserve.ensures.nodes_kept LeafKind in
    let long = art-counted g.K.AsBytes.text old c.args.self.now.root c.root-root.ensures.one_tree in
    let entries : c.in-Some.entries ≡ leaf_count new + count = omega (arith, same, long, c.len.ensures, c.in-Some.is) in
    on_ok_weaker {Q = HasRoomOf kind new count} c.reserve.result
    (λ reserved. reserved-room new kind count (subst (λ most. most ≤ room new kind) (c.min.ensures ∙ ap (min count) (c.most_of.ensures ∙ ap (most_nodes kind) entries)) reserved)) c.reserve.ensures.room

pub returns-clause-other_room : goal.returns-clause-other_room
returns-clause-other_room g c = λ other differ has.
    let old = c.args.self.now.arena in
    let new = c.reserve.new.self.arena in
    let same = kept-count g.K.AsBytes.text old new c.args.self.now.root c.root-root.ensures.one_tree c.reserve.ensures.nodes_kept LeafKind in
    kept-room old new other c.args.additional (c.reserve.ensures.other_room other differ) (c.reserve.ensures.other_capacity other differ) same has

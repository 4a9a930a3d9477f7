use Rattle.art_steps.proofs.Names.{◌≡◌, ◌∙◌, ◌<◌, lit<, refl, sym, inl, inr, arith, Node4, LeafKind, room, LacksRoomForFork, on_err_always}
use Rattle.art_steps.proofs.InsertLemmas.NodeLemmas.{kinds-apart}
use Rattle.art_steps.proofs.SharedLemmas.ParentLemmas.{always-ok}
use Rattle.art_steps.proofs.SharedLemmas.RoomLemmas.{IsAsked, asked-grows, grows-then, grows-twice, none-left, none-on-err, on-err-then, same-capacity}
use Rattle.art_steps.proofs.reserving.reserve_for_fork.Goals as goal

pub returns-clause-leaf_room : goal.returns-clause-leaf_room
returns-clause-leaf_room g c =
    let same = c.reserve-2.ensures.other_room LeafKind (λ e. cc) in
    always-ok c.reserve-2.result (0 < room c.reserve-2.new.self LeafKind) (omega (arith, same, c.in_ok-reserve.ensures.room))

pub returns-clause-nodes_kept : goal.returns-clause-nodes_kept
returns-clause-nodes_kept g c = λ pointer. c.reserve-2.ensures.nodes_kept pointer ∙ c.reserve.ensures.nodes_kept pointer

pub returns-clause-no_room : goal.returns-clause-no_room
returns-clause-no_room g c =
    on-err-then c.reserve-2.result (room c.reserve.new.self Node4 ≡ 0) _ (λ none. (Node4, (inr refl, sym (c.reserve.ensures.other_room Node4 (λ e. cc)) ∙ none))) (none-on-err c.reserve-2.result c.reserve.new.self Node4 c.reserve-2.ensures.succeeds)

pub returns-in_err-reserve-clause-no_room : goal.returns-in_err-reserve-clause-no_room
returns-in_err-reserve-clause-no_room g c = on_err_always c.from_residual.result _ (LeafKind, (inl refl, none-left c.reserve.result _ c.reserve.ensures.succeeds _ c.in_err-reserve.was))

pub returns-in_err-reserve-clause-memory : goal.returns-in_err-reserve-clause-memory
returns-in_err-reserve-clause-memory g c =
    let old = c.args.arena.now in
    let new = c.reserve.new.self in
    grows-then old new (IsAsked old LeafKind) (LacksRoomForFork old) (λ kind (same, none). (inl same, none)) (asked-grows old new LeafKind (λ some. same-capacity old new (c.reserve.ensures.had_room some)) c.reserve.ensures.other_capacity)

pub returns-clause-memory : goal.returns-clause-memory
returns-clause-memory g c =
    let old = c.args.arena.now in
    let mid = c.reserve.new.self in
    let new = c.reserve-2.new.self in
    let first = grows-then old mid (IsAsked old LeafKind) (LacksRoomForFork old) (λ kind (same, none). (inl same, none)) (asked-grows old mid LeafKind (λ some. same-capacity old mid (c.reserve.ensures.had_room some)) c.reserve.ensures.other_capacity) in
    let second = grows-then mid new (IsAsked mid Node4) (LacksRoomForFork old) (λ kind (same, none). (inr same, sym (c.reserve.ensures.other_room kind (λ leaf. kinds-apart {a = LeafKind} {b = Node4} (lit< tt) (sym leaf ∙ same))) ∙ none))
    (asked-grows mid new Node4 (λ some. same-capacity mid new (c.reserve-2.ensures.had_room some)) c.reserve-2.ensures.other_capacity) in
    grows-twice old mid new _ first second

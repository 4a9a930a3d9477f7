use Rattle.art_steps.proofs.Names.{◌≢◌, ◌∙◌, lit<, refl, sym, inl, inr, arith, NodeType, node_kind, LacksRoomForChild, LacksRoomToGrow, on_err_always, LeafKind}
use Rattle.art_steps.proofs.InsertLemmas.AddedChild.{grown-inner}
use Rattle.art_steps.proofs.SharedLemmas.ParentLemmas.{always-ok}
use Rattle.art_steps.proofs.SharedLemmas.RoomLemmas.{IsAsked, asked-grows, grows-then, grows-twice, none-left, on-err-then, same-capacity}
use Rattle.art_steps.proofs.reserving.reserve_for_child.Goals as goal

pub reserve_growth-requires : goal.reserve_growth-requires
reserve_growth-requires g c = (search, (search, (search, (search, (search, (lit< tt, (c.requires.inner, λ node is. c.requires.full node (sym (c.reserve.ensures.nodes_kept c.args.pointer) ∙ is))))))))

pub returns-clause-nodes_kept : goal.returns-clause-nodes_kept
returns-clause-nodes_kept g c = λ pointer. c.reserve_growth.ensures.nodes_kept pointer ∙ c.reserve.ensures.nodes_kept pointer

pub returns-clause-leaf_room : goal.returns-clause-leaf_room
returns-clause-leaf_room g c = always-ok c.reserve_growth.result _ (omega (arith, c.in_ok-reserve.ensures.room, c.reserve_growth.ensures.leaf_room))

pub returns-clause-no_room : goal.returns-clause-no_room
returns-clause-no_room g c = on-err-then c.reserve_growth.result ((kind : NodeType) × LacksRoomToGrow c.reserve.new.self c.args.pointer kind) _ (λ (kind, grows). (
  kind,
  inr (λ node is.
      let (full, grown, none) = grows node (c.reserve.ensures.nodes_kept c.args.pointer ∙ is) in
      let other : kind ≢ LeafKind = λ leaf. grown-inner (node_kind c.args.pointer) c.requires.inner (sym grown ∙ leaf) in
      (full, grown, sym (c.reserve.ensures.other_room kind other) ∙ none)),
)) c.reserve_growth.ensures.no_room

pub returns-in_err-reserve-clause-no_room : goal.returns-in_err-reserve-clause-no_room
returns-in_err-reserve-clause-no_room g c = on_err_always c.from_residual.result _ (LeafKind, inl (refl, none-left c.reserve.result _ c.reserve.ensures.succeeds _ c.in_err-reserve.was))

pub returns-in_err-reserve-clause-memory : goal.returns-in_err-reserve-clause-memory
returns-in_err-reserve-clause-memory g c =
    let old = c.args.arena.now in
    let new = c.reserve.new.self in
    grows-then old new (IsAsked old LeafKind) (LacksRoomForChild old c.args.pointer) (λ kind needed. inl needed) (asked-grows old new LeafKind (λ some. same-capacity old new (c.reserve.ensures.had_room some)) c.reserve.ensures.other_capacity)

pub returns-clause-memory : goal.returns-clause-memory
returns-clause-memory g c =
    let old = c.args.arena.now in
    let mid = c.reserve.new.self in
    let new = c.reserve_growth.new.arena in
    let first = grows-then old mid (IsAsked old LeafKind) (LacksRoomForChild old c.args.pointer) (λ kind needed. inl needed) (asked-grows old mid LeafKind (λ some. same-capacity old mid (c.reserve.ensures.had_room some)) c.reserve.ensures.other_capacity) in
    let second = grows-then mid new (LacksRoomToGrow mid c.args.pointer) (LacksRoomForChild old c.args.pointer) (λ kind grows. inr (λ node is.
    let (full, grown, none) = grows node (c.reserve.ensures.nodes_kept c.args.pointer ∙ is) in
    let other : kind ≢ LeafKind = λ leaf. grown-inner (node_kind c.args.pointer) c.requires.inner (sym grown ∙ leaf) in
    (full, grown, sym (c.reserve.ensures.other_room kind other) ∙ none))) c.reserve_growth.ensures.memory in
    grows-twice old mid new _ first second

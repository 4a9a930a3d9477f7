use Rattle.art_steps.proofs.Names.{◌≡◌, ◌∙◌, sym, ap, inl, refl, false≢true, shrunk_kind, node_kind, room, LacksRoomToShrink, on_err_always}
use Rattle.art_steps.proofs.SharedLemmas.RoomLemmas.{IsAsked, asked-grows, grows-then, none-on-err, on-err-then, same-capacity}
use Rattle.art_steps.proofs.removed_child.reserve_shrink.Goals as goal

pub returns-then-not-fewest-clause-room : goal.returns-then-not-fewest-clause-room
returns-then-not-fewest-clause-room g c = λ node is more least. absurd (false≢true (sym c.if-not-fewest.true ∙ (c.requires.fewest node is).1 least))

pub returns-then-not-fewest-clause-memory : goal.returns-then-not-fewest-clause-memory
returns-then-not-fewest-clause-memory g c = λ kind. inl refl

pub returns-clause-refused : goal.returns-clause-refused
returns-clause-refused g c = on_err_always c.reserve.result _ (λ node is. (c.requires.more node is, (c.requires.fewest node is).0 c.if-not-fewest.false))

pub returns-clause-takes_no_memory : goal.returns-clause-takes_no_memory
returns-clause-takes_no_memory g c = λ node is differ. absurd (differ ((c.requires.fewest node is).0 c.if-not-fewest.false))

pub returns-clause-no_room : goal.returns-clause-no_room
returns-clause-no_room g c =
    let kind : c.shrunk.result ≡ shrunk_kind (node_kind c.args.pointer) = c.shrunk.ensures ∙ ap shrunk_kind c.node_type.ensures in
    on-err-then c.reserve.result (room c.args.arena.now c.shrunk.result ≡ 0) _ (λ none. (c.shrunk.result, λ node is. ((c.requires.more node is, (c.requires.fewest node is).0 c.if-not-fewest.false), kind, none))) (none-on-err c.reserve.result c.args.arena.now c.shrunk.result c.reserve.ensures.succeeds)

pub returns-clause-memory : goal.returns-clause-memory
returns-clause-memory g c =
    let old = c.args.arena.now in
    let new = c.reserve.new.self in
    let kind : c.shrunk.result ≡ shrunk_kind (node_kind c.args.pointer) = c.shrunk.ensures ∙ ap shrunk_kind c.node_type.ensures in
    grows-then old new (IsAsked old c.shrunk.result) (LacksRoomToShrink old c.args.pointer) (λ other (same, none) node is. ((c.requires.more node is, (c.requires.fewest node is).0 c.if-not-fewest.false), same ∙ kind, none))
    (asked-grows old new c.shrunk.result (λ some. same-capacity old new (c.reserve.ensures.had_room some)) c.reserve.ensures.other_capacity)

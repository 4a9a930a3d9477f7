use Rattle.art_steps.proofs.Names.{◌≡◌, ◌∙◌, ℕ, ◌≤◌, refl, sym, ap, subst, inl, inr, arith, false≢true, grown_kind, node_kind, same_or_differ, room, LacksRoomToGrow, LeafKind}
use Rattle.art_steps.proofs.SharedLemmas.RoomLemmas.{IsAsked, asked-grows, grows-then, none-on-err, on-err-then, same-capacity}
use Rattle.art_steps.proofs.reserving.reserve_growth.Goals as goal

least : (m n : ℕ) → m ≡ n → n ≤ m
least m n same = omega (arith, same)

pub returns-clause-leaf_room : goal.returns-clause-leaf_room
returns-clause-leaf_room g c = elim (same_or_differ LeafKind c.grown.result) [
  | inl same ↦ subst (λ kind. room c.args.arena.now kind ≤ room c.reserve.new.self kind) (sym same) c.reserve.ensures.no_less_room
  | inr differ ↦ least _ _ (c.reserve.ensures.other_room LeafKind differ)
]

pub returns-then-not-full-clause-room : goal.returns-then-not-full-clause-room
returns-then-not-full-clause-room g c = λ node is full. absurd (false≢true (sym c.if-not-full.true ∙ (c.requires.full node is).0.1 full))

pub returns-clause-no_room : goal.returns-clause-no_room
returns-clause-no_room g c =
    let kind : c.grown.result ≡ grown_kind (node_kind c.args.pointer) = c.grown.ensures ∙ ap grown_kind c.node_type.ensures in
    on-err-then c.reserve.result (room c.args.arena.now c.grown.result ≡ 0) _ (λ none. (c.grown.result, λ node is. ((c.requires.full node is).0.0 c.if-not-full.false, kind, none))) (none-on-err c.reserve.result c.args.arena.now c.grown.result c.reserve.ensures.succeeds)

pub returns-clause-memory : goal.returns-clause-memory
returns-clause-memory g c =
    let kind : c.grown.result ≡ grown_kind (node_kind c.args.pointer) = c.grown.ensures ∙ ap grown_kind c.node_type.ensures in
    let old = c.args.arena.now in
    let new = c.reserve.new.self in
    grows-then old new (IsAsked old c.grown.result) (LacksRoomToGrow old c.args.pointer) (λ other (same, none) node is. ((c.requires.full node is).0.0 c.if-not-full.false, same ∙ kind, none))
    (asked-grows old new c.grown.result (λ some. same-capacity old new (c.reserve.ensures.had_room some)) c.reserve.ensures.other_capacity)

pub returns-then-not-full-clause-memory : goal.returns-then-not-full-clause-memory
returns-then-not-full-clause-memory g c = λ kind. inl refl

use Rattle.art_tree.proofs.Names.{◌∙◌, ℕ, on_ok_weaker, NodeArena, HasRoomOf, LeafKind, Node16, Node256, Node4, Node48}
use Rattle.art_steps.specs.Room.{HasEntryRoom}
use Rattle.art_tree.proofs.tree.room.ArtTree+K+V+PREFIX_LEN.reserve_entries.Goals as goal

each-kind : {K V : Type 0} {P : ℕ} (arena : NodeArena K V P) (count : ℕ) → HasRoomOf LeafKind arena count → HasRoomOf Node4 arena count → HasRoomOf Node16 arena count → HasRoomOf Node48 arena count → HasRoomOf Node256 arena count → HasEntryRoom arena count
each-kind arena count leaf four sixteen many all LeafKind = leaf
each-kind arena count leaf four sixteen many all Node4 = four
each-kind arena count leaf four sixteen many all Node16 = sixteen
each-kind arena count leaf four sixteen many all Node48 = many
each-kind arena count leaf four sixteen many all Node256 = all

pub returns-clause-room : goal.returns-clause-room
returns-clause-room g c =
    let count = c.args.additional in
    let last = c.reserve_kind-5.new.self.arena in
    let two = c.reserve_kind-2.ensures.other_room in
    let three = c.reserve_kind-3.ensures.other_room in
    let four = c.reserve_kind-4.ensures.other_room in
    let five = c.reserve_kind-5.ensures.other_room in
    on_ok_weaker c.reserve_kind-5.result (each-kind last count
    (five LeafKind (λ e. cc) (four LeafKind (λ e. cc) (three LeafKind (λ e. cc) (two LeafKind (λ e. cc) c.in_ok-reserve_kind.ensures.room))))
    (five Node4 (λ e. cc) (four Node4 (λ e. cc) (three Node4 (λ e. cc) c.in_ok-reserve_kind-2.ensures.room)))
    (five Node16 (λ e. cc) (four Node16 (λ e. cc) c.in_ok-reserve_kind-3.ensures.room))
    (five Node48 (λ e. cc) c.in_ok-reserve_kind-4.ensures.room)) c.reserve_kind-5.ensures.room

pub returns-in_err-reserve_kind-clause-same_entries : goal.returns-in_err-reserve_kind-clause-same_entries
returns-in_err-reserve_kind-clause-same_entries g c = λ x. c.reserve_kind.ensures.same_entries x

pub returns-in_err-reserve_kind-2-clause-same_entries : goal.returns-in_err-reserve_kind-2-clause-same_entries
returns-in_err-reserve_kind-2-clause-same_entries g c = λ x. c.reserve_kind-2.ensures.same_entries x ∙ c.reserve_kind.ensures.same_entries x

pub returns-in_err-reserve_kind-3-clause-same_entries : goal.returns-in_err-reserve_kind-3-clause-same_entries
returns-in_err-reserve_kind-3-clause-same_entries g c = λ x. c.reserve_kind-3.ensures.same_entries x ∙ c.reserve_kind-2.ensures.same_entries x ∙ c.reserve_kind.ensures.same_entries x

pub returns-in_err-reserve_kind-4-clause-same_entries : goal.returns-in_err-reserve_kind-4-clause-same_entries
returns-in_err-reserve_kind-4-clause-same_entries g c = λ x. c.reserve_kind-4.ensures.same_entries x ∙ c.reserve_kind-3.ensures.same_entries x ∙ c.reserve_kind-2.ensures.same_entries x ∙ c.reserve_kind.ensures.same_entries x

pub returns-clause-same_entries : goal.returns-clause-same_entries
returns-clause-same_entries g c = λ x. c.reserve_kind-5.ensures.same_entries x ∙ c.reserve_kind-4.ensures.same_entries x ∙ c.reserve_kind-3.ensures.same_entries x ∙ c.reserve_kind-2.ensures.same_entries x ∙ c.reserve_kind.ensures.same_entries x

pub returns-in_err-reserve_kind-clause-nodes_kept : goal.returns-in_err-reserve_kind-clause-nodes_kept
returns-in_err-reserve_kind-clause-nodes_kept g c = λ x. c.reserve_kind.ensures.nodes_kept x

pub returns-in_err-reserve_kind-2-clause-nodes_kept : goal.returns-in_err-reserve_kind-2-clause-nodes_kept
returns-in_err-reserve_kind-2-clause-nodes_kept g c = λ x. c.reserve_kind-2.ensures.nodes_kept x ∙ c.reserve_kind.ensures.nodes_kept x

pub returns-in_err-reserve_kind-3-clause-nodes_kept : goal.returns-in_err-reserve_kind-3-clause-nodes_kept
returns-in_err-reserve_kind-3-clause-nodes_kept g c = λ x. c.reserve_kind-3.ensures.nodes_kept x ∙ c.reserve_kind-2.ensures.nodes_kept x ∙ c.reserve_kind.ensures.nodes_kept x

pub returns-in_err-reserve_kind-4-clause-nodes_kept : goal.returns-in_err-reserve_kind-4-clause-nodes_kept
returns-in_err-reserve_kind-4-clause-nodes_kept g c = λ x. c.reserve_kind-4.ensures.nodes_kept x ∙ c.reserve_kind-3.ensures.nodes_kept x ∙ c.reserve_kind-2.ensures.nodes_kept x ∙ c.reserve_kind.ensures.nodes_kept x

pub returns-clause-nodes_kept : goal.returns-clause-nodes_kept
returns-clause-nodes_kept g c = λ x. c.reserve_kind-5.ensures.nodes_kept x ∙ c.reserve_kind-4.ensures.nodes_kept x ∙ c.reserve_kind-3.ensures.nodes_kept x ∙ c.reserve_kind-2.ensures.nodes_kept x ∙ c.reserve_kind.ensures.nodes_kept x

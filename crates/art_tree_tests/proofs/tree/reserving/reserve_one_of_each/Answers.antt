use Rattle.std.proofs.Common.{◌∙◌, ℕ, ◌≤◌, Result, Ok, Err, OnOk, arith}
use Rattle.art_header.specs.declared.node_type.NodeType.{NodeType}
use Rattle.art_header.specs.declared.node_type.NodeType.TheVariants as kinds
use Rattle.art_arena.specs.Arena.{NodeArena, room}
use Rattle.art_tree_tests.proofs.tree.reserving.reserve_one_of_each.Goals as goal

on-ok-then : {A E : Type 0} (r : Result A E) (P Q : Type 0) → (P → Q) → OnOk r P → OnOk r Q
on-ok-then (Ok a) P Q follows holds = follows holds
on-ok-then (Err e) P Q follows holds = tt

by-kind : {K V : Type 0} {P : ℕ} (arena : NodeArena K V P) → 1 ≤ room arena kinds.Leaf → 1 ≤ room arena kinds.Node4 → 1 ≤ room arena kinds.Node16 → 1 ≤ room arena kinds.Node48 → 1 ≤ room arena kinds.Node256 → (kind : NodeType) → 1 ≤ room arena kind
by-kind arena leaf four sixteen many all kinds.Leaf = leaf
by-kind arena leaf four sixteen many all kinds.Node4 = four
by-kind arena leaf four sixteen many all kinds.Node16 = sixteen
by-kind arena leaf four sixteen many all kinds.Node48 = many
by-kind arena leaf four sixteen many all kinds.Node256 = all

pub returns-clause-room : goal.returns-clause-room
returns-clause-room g c =
    let two = c.reserve-2.ensures.other_room in
    let three = c.reserve-3.ensures.other_room in
    let four = c.reserve-4.ensures.other_room in
    let five = c.reserve-5.ensures.other_room in
    on-ok-then c.reserve-5.result (1 ≤ room c.reserve-5.new.self.arena kinds.Node256) _ (by-kind c.reserve-5.new.self.arena
    (omega (arith, c.in_ok-reserve.ensures.room, two kinds.Leaf (λ e. cc), three kinds.Leaf (λ e. cc), four kinds.Leaf (λ e. cc), five kinds.Leaf (λ e. cc)))
    (omega (arith, c.in_ok-reserve-2.ensures.room, three kinds.Node4 (λ e. cc), four kinds.Node4 (λ e. cc), five kinds.Node4 (λ e. cc)))
    (omega (arith, c.in_ok-reserve-3.ensures.room, four kinds.Node16 (λ e. cc), five kinds.Node16 (λ e. cc)))
    (omega (arith, c.in_ok-reserve-4.ensures.room, five kinds.Node48 (λ e. cc)))) c.reserve-5.ensures.room

pub returns-in_err-reserve-clause-same_entries : goal.returns-in_err-reserve-clause-same_entries
returns-in_err-reserve-clause-same_entries g c = λ x. c.reserve.ensures.same_entries x

pub returns-in_err-reserve-2-clause-same_entries : goal.returns-in_err-reserve-2-clause-same_entries
returns-in_err-reserve-2-clause-same_entries g c = λ x. c.reserve-2.ensures.same_entries x ∙ c.reserve.ensures.same_entries x

pub returns-in_err-reserve-3-clause-same_entries : goal.returns-in_err-reserve-3-clause-same_entries
returns-in_err-reserve-3-clause-same_entries g c = λ x. c.reserve-3.ensures.same_entries x ∙ c.reserve-2.ensures.same_entries x ∙ c.reserve.ensures.same_entries x

pub returns-in_err-reserve-4-clause-same_entries : goal.returns-in_err-reserve-4-clause-same_entries
returns-in_err-reserve-4-clause-same_entries g c = λ x. c.reserve-4.ensures.same_entries x ∙ c.reserve-3.ensures.same_entries x ∙ c.reserve-2.ensures.same_entries x ∙ c.reserve.ensures.same_entries x

pub returns-clause-same_entries : goal.returns-clause-same_entries
returns-clause-same_entries g c = λ x. c.reserve-5.ensures.same_entries x ∙ c.reserve-4.ensures.same_entries x ∙ c.reserve-3.ensures.same_entries x ∙ c.reserve-2.ensures.same_entries x ∙ c.reserve.ensures.same_entries x

use Rattle.std.proofs.Common.{◌≡◌, ◌<◌, ◌∙◌, ◌^◌, ◌++◌, ◌∷◌, [], length, ap, sym, subst, arith}
use Rattle.std.proofs.lemmas.List.{append-nil}
use Rattle.art_bytes.specs.Text.{IsPrefixOf}
use Rattle.art_arena.specs.Standing.{TreeAt, leaf_text}
use Rattle.art_tree_tests.proofs.PlantLemmas.{leaf_planted, others_planted}
use Rattle.art_tree_tests.proofs.arena.full_prefix.plant_leaf.Goals as goal

pub returns-clause-planted : goal.returns-clause-planted
returns-clause-planted g c =
    let leaf = c.with_no_siblings-leaf.result in
    let lead = (c.args.path.now ++ c.args.prefix.now) ++ c.args.byte ∷ [] in
    let read : leaf_text (λ k. k.items) leaf ≡ lead = ap (λ k. k.items) c.with_no_siblings-leaf.ensures.key ∙ c.in_ok-key.ensures in
    let bytes = c.as_bytes-text.ensures.text ∙ ap (λ k. k.items) c.key_ref.ensures in
    let short : length (leaf_text (λ k. k.items) leaf) < 2 ^ 64 = omega (arith, ap length bytes) in
    subst (λ p. (found : TreeAt (λ k. k.items) c.allocate_node_ptr.new.self p) × (found.path ≡ lead)) (sym c.to_opaque.ensures)
    (leaf_planted (λ k. k.items) c.args.arena.now c.allocate_node_ptr.new.self _ leaf lead c.in-Ok.ensures.added (subst (IsPrefixOf lead) (sym read) ([], sym (append-nil lead))) short)

pub returns-clause-kept : goal.returns-clause-kept
returns-clause-kept g c = λ pointer found.
    others_planted (λ k. k.items) c.args.arena.now c.allocate_node_ptr.new.self (λ tree. c.allocating_leaves_trees_standing.ensures.tree _ _ _ _ tree c.in-Ok.ensures.was_free c.in-Ok.ensures.added) pointer found

use Rattle.std.proofs.Common.{◌≡◌, ◌≢◌, ℕ, zero, suc, ◌<◌, List, [], ◌∷◌, Contains, Result, Ok, Err, IfErr, refl, sym, subst, inl, inr, arith}
use Rattle.art_header.specs.declared.node_type.NodeType.{NodeType}
use Rattle.art_header.specs.declared.node_type.NodeType.TheVariants as kinds
use Rattle.art_nodes.specs.Pointers.{opaque_pointer}
use Rattle.art_arena.specs.Arena.{room}
use Rattle.art_arena.specs.Trees.{Leaf}
use Rattle.art_steps.specs.Art.{IsArt}
use Rattle.art_steps.specs.Insertion.{IsRefused}
use Rattle.art_steps.specs.NodeCounts.{one_if_same, nodes_of}
use Rattle.art_steps.specs.Room.{HasFewer, LacksRoomToInsert}
use Rattle.art_steps.specs.declared.faults.InsertRefusal.TheVariants.{OutOfMemory}
use Rattle.art_tree_tests.proofs.tree.reserving.insert_first_reserved.Goals as goal

each-error : {A E : Type 0} (P Q R : E → Type 0) → ((e : E) → P e → Q e → R e) → (r : Result A E) → IfErr r P → IfErr r Q → IfErr r R
each-error P Q R implies (Ok a) first second = tt
each-error P Q R implies (Err e) first second = implies e first second

only : (x y : List ℕ) → Contains (x ∷ []) y → x ≡ y
only x y (zero, inside, is) = is
only x y (suc k, inside, is) = absurd (omega (arith, inside))

leaf-kind : (kind : NodeType) → 0 < one_if_same kind kinds.Leaf → kind ≡ kinds.Leaf
leaf-kind kinds.Node4 some = absurd (omega (arith, some))
leaf-kind kinds.Node16 some = absurd (omega (arith, some))
leaf-kind kinds.Node48 some = absurd (omega (arith, some))
leaf-kind kinds.Node256 some = absurd (omega (arith, some))
leaf-kind kinds.Leaf some = refl

pub returns : goal.returns
returns g c =
    let text = g.K.AsBytes.text in
    let old = c.args.tree.now in
    let key = text c.args.key in
    let none = c.entries_are_what_leaves_hold.ensures.none old.arena (subst (IsArt text old.arena) c.requires.empty c.root.ensures.one_tree) in
    each-error (λ fault. IsRefused text old.arena key fault.refusal) (λ fault. fault.refusal ≡ OutOfMemory → (kind : NodeType) × LacksRoomToInsert text old.arena old.root key kind) (λ fault. fault.refusal ≢ OutOfMemory) (λ fault due lacks is.
    let (kind, lack) = lacks is in
    let short = (subst (IsRefused text old.arena key) is due).0.0 in
    let some : 0 < nodes_of kind lack.tree = subst (λ root. HasFewer text old.arena root kind (nodes_of kind lack.tree)) c.requires.empty lack.needed in
    let same = c.the_same_texts_have_the_same_nodes.ensures lack.tree (Leaf (opaque_pointer kinds.Leaf 0) key) kind lack.sound ((key, refl), omega (arith, short)) (λ x. (
      λ inside. elim ((lack.texts_are x).0 inside) [ inl has ↦ absurd (has (none x)) | inr is_key ↦ (0, omega arith, sym is_key) ],
      λ inside. (lack.texts_are x).1 (inr (sym (only key x inside))),
    )) in
    let is_leaf = leaf-kind kind (omega (arith, some, same)) in
    let no_room = subst (λ k. room old.arena k ≡ 0) is_leaf lack.none in
    omega (arith, no_room, c.requires.room)) c.insert.result c.insert.ensures.refusal_due c.insert.ensures.no_room

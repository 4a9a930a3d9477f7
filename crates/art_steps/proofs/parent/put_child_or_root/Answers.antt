use Rattle.art_steps.proofs.Names.{◌≡◌, ◌≢◌, ◌∙◌, ◌&&◌, Bool, true, false, refl, sym, subst, arith, rules, nat_tests, most_children, node_kind, opaque_key, held, HeldInner, Nothing, IsChildOrRoot, LeafKind, HasRoomFor}
use denote.Enum.Bare.{same_true}
use Rattle.art_header.specs.contracts.node_type.NodeType.{the_type}
use Rattle.art_nodes.specs.Inner.{Inner}
use Rattle.art_steps.proofs.SharedLemmas.ParentLemmas.{child_or_root-there, is-parent}
use Rattle.art_steps.proofs.parent.put_child_or_root.Goals as goal

pub write_child-requires : goal.write_child-requires
write_child-requires g c =
    let arena = c.args.arena.now in
    let parent = is-parent arena c.args.parent c.in-Some.parent c.in-Some.byte c.args.before c.requires c.in-Some.is in
    let is_held : held arena c.in-Some.parent ≢ Nothing = parent.is_held in
    let is_inner : node_kind c.in-Some.parent ≢ LeafKind = parent.is_inner in
    let has_room : (node : Inner _) → held arena c.in-Some.parent ≡ HeldInner node → HasRoomFor (most_children (node_kind c.in-Some.parent)) node c.in-Some.byte = parent.has_room in
    search

pub returns-clause-room : goal.returns-clause-room
returns-clause-room g c = c.write_child.ensures.room

both : (a b : Bool) → a && b ≡ true → (a ≡ true) × (b ≡ true)
both true b is = (refl, is)
both false b is = absurd (cc)

pub returns-then-eq-clause-placed : goal.returns-then-eq-clause-placed
returns-then-eq-clause-placed g c =
    let arena = c.args.arena.now in
    let node = c.args.node in
    let before = c.args.before in
    let equal = both _ _ (sym c.eq.ensures ∙ c.if-eq.true) in
    let kind : node_kind node ≡ node_kind before = same_true the_type (search rules) _ _ equal.0 in
    let key : opaque_key node ≡ opaque_key before = grind (arith, nat_tests, equal.1) in
    let same : node ≡ before = (λ i. record { node_type = kind i; key = key i; leaf = record {} }) in
    subst (λ child. IsChildOrRoot arena arena c.args.parent child c.args.root c.args.root) (sym same) (child_or_root-there arena c.args.parent c.in-Some.parent c.in-Some.byte before c.args.root c.requires c.in-Some.is)

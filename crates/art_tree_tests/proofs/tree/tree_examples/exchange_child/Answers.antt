use Rattle.std.proofs.Common.{◌≡◌, ◌≢◌, ◌∙◌, ◌<◌, ◌^◌, [], Option, None, Some, IsNone, lit<, refl, sym, ap}
use Rattle.std.proofs.lemmas.List.Elements.{All-weaker}
use Rattle.art_nodes.specs.ChildMap.{child_at}
use Rattle.art_nodes.specs.Inner.{HasRoomFor, node_with_child}
use Rattle.art_nodes.specs.Pointers.{opaque_pointer, slab_key}
use Rattle.art_arena.specs.Arena.{HeldInner, held, with_node}
use Rattle.art_arena.specs.Trees.{places}
use Rattle.art_steps.specs.Contexts.{Under, IsExchanged}
use Rattle.art_tree_tests.proofs.tree.tree_examples.exchange_child.Goals as goal

not-none : {A : Type 0} (o : Option A) → o ≢ None → IsNone o → ⊥
not-none None differs none = differs refl
not-none (Some x) differs none = absurd (cc)

pub write_child-requires : goal.write_child-requires
write_child-requires g c =
    let node = g.N.InnerNodeRead.inner c.as_mut.result.now in
    let is : held c.args.arena.now (opaque_pointer g.N.Node.TYPE (slab_key c.args.node)) ≡ HeldInner node = c.as_mut.ensures.node ∙ g.met.N.ArenaInnerNode.shown c.as_mut.result.now in
    let has_room : HasRoomFor g.N.InnerNodeRead.room node c.args.byte = λ none. absurd (not-none (child_at node.children c.args.byte) (c.requires.has_child node is) none) in
    -- the size in memory of a pointer
    let fits : 16 < 2 ^ 63 = lit< tt in
    search

pub returns : goal.returns
returns g c = λ above prefix before after part now stood sound root now_sound now_stands apart.
    let old = c.args.arena.now in
    let pointer = opaque_pointer g.N.Node.TYPE (slab_key c.args.node) in
    let context = Under above pointer prefix before c.args.byte after in
    let own = g.N.InnerNodeRead.inner c.as_mut.result.now in
    let was : held old pointer ≡ HeldInner own = c.as_mut.ensures.node ∙ g.met.N.ArenaInnerNode.shown c.as_mut.result.now in
    let new = with_node g.N.InSlab.slab_of g.N.InSlab.with_slab old (slab_key c.args.node) c.write_child.new.self in
    let changes = c.as_mut.ensures.changes c.write_child.new.self in
    let exchanged : IsExchanged old new g.K.AsBytes.text context part now = record {
      stood = stood;
      stands = c.trees_stand_where_their_nodes_are_kept.ensures old new now (All-weaker (λ q. q ≢ pointer) (λ q. held new q ≡ held old q) changes.others (places now) apart) now_stands;
      adopted = λ node is.
          let one : HeldInner own ≡ HeldInner node = sym was ∙ is in
          let same : own ≡ node = cc in
          changes.changed ∙ g.met.N.ArenaInnerNode.shown c.write_child.new.self ∙ ap HeldInner (c.write_child.ensures.written ∙ ap (λ n. node_with_child n c.args.byte c.args.child) same) ∙ ap (λ q. HeldInner (node_with_child node c.args.byte q)) (sym root);
      others = λ q inside outside other.
          let kept = changes.others q (λ same. other (ap (λ p. Some p) (sym same))) in
          record { inner = λ node is. kept ∙ is; leaf = λ leaf is. (leaf, kept ∙ is, refl, refl) };
    } in
    (c.a_subtree_may_be_exchanged.ensures.stands old new [] context part now sound exchanged, c.a_subtree_may_be_exchanged.ensures.sound [] context part now sound now_sound)

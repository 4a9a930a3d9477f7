use Rattle.art_tree.proofs.Names.{◌≡◌, ◌≢◌, ◌<◌, ◌≤◌, ◌∙◌, ℕ, List, ◌∷◌, ◌++◌, None, length, sym, least_children, child_at, node_kind, slab_key, held, HeldInner, Nothing, IsLinkedList, HasRoomToShrink, WhetherFewest, HasChildUnder, NeedsSmallerNode, RemovesEntry, LeafKind}
use Rattle.art_nodes.specs.Inner.{Inner}
use Rattle.art_tree.proofs.RemoveLemmas.RemovedLeaf.{removed-from}
use Rattle.art_tree.proofs.RemoveLemmas.RemovedChild.{tells-fewest, parent-held, parent-many, room-to-shrink, child-there, parent-is, many-has_child, many-removed, more-than-two, needs-smaller, not-least}
use Rattle.art_steps.proofs.SharedLemmas.ExchangedTree.{alone-same}
use Rattle.art_steps.proofs.SharedLemmas.RoomLemmas.{grows-on, grows-then, same-capacity}
use Rattle.art_tree.proofs.RemoveLemmas.LeafParent.{leaf-place}
use Rattle.art_tree.proofs.RemoveLemmas.NeededNodes.{removal-lacks}
use Rattle.art_tree.proofs.RemoveLemmas.RemovalLemmas.{frees-leaf}
use Rattle.art_tree.proofs.RemoveLemmas.TakenEntries.{at-err}
use Rattle.art_tree.proofs.remove.remove_from_many.Goals as goal

pub reserve_shrink-requires : goal.reserve_shrink-requires
reserve_shrink-requires g c =
    let (tree, alone, parents) = c.requires.place in
    let place = leaf-place alone parents in
    let more : (node : Inner _) → held c.args.arena.now c.args.spot.parent ≡ HeldInner node → 2 < length node.children = more-than-two place (c.requires.many place.node place.is_held) in
    let tells : WhetherFewest c.args.arena.now c.args.spot.parent c.args.fewest = c.requires.fewest in
    search

pub take_leaf-entry-requires : goal.take_leaf-entry-requires
take_leaf-entry-requires g c =
    let (tree, alone, parents) = c.requires.place in
    let reserved = c.reserve_shrink.new.arena in
    let place = leaf-place (alone-same g.K.AsBytes.text c.args.arena.now reserved c.reserve_shrink.ensures.nodes_kept c.args.root tree alone) parents in
    let listed : (left right : List ℕ) × IsLinkedList reserved (left ++ slab_key c.args.leaf ∷ right) = (_, _, place.is_linked) in
    assumption

pub take_child-node-requires : goal.take_child-node-requires
take_child-node-requires g c =
    let (tree, alone, parents) = c.requires.place in
    let parent = c.args.spot.parent in
    let kept = c.reserve_shrink.ensures.nodes_kept in
    let place = leaf-place (alone-same g.K.AsBytes.text c.args.arena.now c.reserve_shrink.new.arena kept c.args.root tree alone) parents in
    let taken = c.take_leaf-entry.ensures in
    let without = c.take_leaf-entry.new.arena in
    let many : length place.node.children ≢ 2 = c.requires.many place.node (sym (kept parent) ∙ place.is_held) in
    let is_held : held without parent ≢ Nothing = parent-held place taken in
    let is_inner : node_kind parent ≢ LeafKind = place.inner in
    let there : (node : Inner _) → held without parent ≡ HeldInner node → child_at node.children c.args.spot.byte ≢ None = child-there place taken in
    let enough : (node : Inner _) → held without parent ≡ HeldInner node → (2 < length node.children) × (least_children (node_kind parent) ≤ length node.children) = parent-many place taken many in
    let tells : WhetherFewest without parent c.args.fewest = tells-fewest place taken (λ node is. c.requires.fewest node (sym (kept parent) ∙ is)) in
    let has_room : HasRoomToShrink without parent = room-to-shrink place taken many c.in_ok-reserve_shrink.ensures.room in
    assumption

pub put_child_or_root-root-requires : goal.put_child_or_root-root-requires
put_child_or_root-root-requires g c =
    let (tree, alone, parents) = c.requires.place in
    let parent = c.args.spot.parent in
    let kept = c.reserve_shrink.ensures.nodes_kept in
    let place = leaf-place (alone-same g.K.AsBytes.text c.args.arena.now c.reserve_shrink.new.arena kept c.args.root tree alone) parents in
    let taken = c.take_leaf-entry.ensures in
    let many : length place.node.children ≢ 2 = c.requires.many place.node (sym (kept parent) ∙ place.is_held) in
    let new = c.take_child-node.new.arena in
    let can : HasChildUnder new c.args.spot.above parent = many-has_child place taken many new c.take_child-node.result (c.take_child-node.ensures.taken _ (parent-is place taken)) in
    assumption

pub returns : goal.returns
returns g c = λ tree alone parents.
    let text = g.K.AsBytes.text in
    let old = c.args.arena.now in
    let reserved = c.reserve_shrink.new.arena in
    let new = c.take_child-node.new.arena in
    let last = c.put_child_or_root-root.new.arena in
    let parent = c.args.spot.parent in
    let kept = c.reserve_shrink.ensures.nodes_kept in
    let before = leaf-place alone parents in
    let place = leaf-place (alone-same text old reserved kept c.args.root tree alone) parents in
    let taken = c.take_leaf-entry.ensures in
    let many : length place.node.children ≢ 2 = c.requires.many place.node (sym (kept parent) ∙ place.is_held) in
    let less = c.take_child-node.ensures.taken _ (parent-is place taken) in
    let least = λ (enough : ¬ NeedsSmallerNode text old parents.text). not-least before (c.requires.many before.node before.is_held) enough in
    record {
      removed = removed-from alone kept (many-removed place taken many new c.take_child-node.result less last c.put_child_or_root-root.result c.put_child_or_root-root.ensures.placed);
      refused = tt;
      nodes_kept = tt;
      takes_no_memory = λ enough. frees-leaf old reserved c.take_leaf-entry.new.arena new last parent c.take_child-node.result place.node _
          (c.reserve_shrink.ensures.takes_no_memory before.node before.is_held (least enough before.node before.is_held)) taken.frees less (least enough place.node (sym (kept parent) ∙ place.is_held)) c.put_child_or_root-root.ensures.room;
      no_room = tt;
      memory = grows-on old reserved last _ (grows-then old reserved _ _ (removal-lacks before) c.reserve_shrink.ensures.memory)
          (λ kind. same-capacity new last c.put_child_or_root-root.ensures.room kind ∙ c.take_child-node.ensures.capacity kind ∙ taken.frees.capacity kind);
    }

pub returns-in_err-reserve_shrink : goal.returns-in_err-reserve_shrink
returns-in_err-reserve_shrink g c = λ tree alone parents.
    let place = leaf-place alone parents in
    let needs = needs-smaller place c.in_err-reserve_shrink.ensures.refused in
    let (kind, lacking) = c.in_err-reserve_shrink.ensures.no_room in
    at-err (RemovesEntry g.K.AsBytes.text c.args.arena.now c.reserve_shrink.new.arena c.args.root parents.text) (λ e. record {
      removed = tt;
      refused = needs;
      nodes_kept = c.reserve_shrink.ensures.nodes_kept;
      takes_no_memory = λ enough. absurd (enough needs);
      no_room = (kind, removal-lacks place kind lacking);
      memory = grows-then c.args.arena.now c.reserve_shrink.new.arena _ _ (removal-lacks place) c.reserve_shrink.ensures.memory;
    }) c.from_residual.result c.from_residual.ensures.0

use Rattle.art_tree.proofs.Names.{◌≡◌, ◌≢◌, ◌∙◌, ◌<◌, None, refl, sym, subst, child_at, node_kind, slab_key, held, HeldInner, Nothing, room, text_at, HasGap, HasRoomToGrow, IsOnSide, WhetherFull, HasChildUnder, HasGapUnder, leaf_pointer, LeafKind, leaf-pointer-fits, places-apart, texts-apart, texts-ascend}
use Rattle.art_nodes.specs.Inner.{Inner}
use Rattle.art_steps.proofs.InsertLemmas.AddedChild.{ChildAdded, alone-there, child-added, child-gap, child-has_child, child-lies, child-reserved, linked-absent, linked-full, linked-held, linked-room, place-there, there-held, there-inner}
use Rattle.art_steps.proofs.InsertLemmas.AddedLeaf.{entered-from}
use Rattle.art_tree.proofs.InsertLemmas.NeededChild.{child-lacks}
use Rattle.art_steps.proofs.SharedLemmas.RoomLemmas.{grows-on, grows-then, same-capacity}
use Rattle.art_steps.proofs.SharedLemmas.ParentLemmas.{err-then, ok-then}
use Rattle.art_tree.proofs.SharedLemmas.TreeLaws.{apart-there}
use Rattle.art_tree.proofs.insert.insert_child.Goals as goal

pub is_full-full-requires : goal.is_full-full-requires
is_full-full-requires g c =
    let old = c.args.arena.now in
    let place = child-reserved old old c.requires.place (λ pointer. refl) c.ranges.byte.fits in
    let is_held : held old c.args.spot.node ≢ Nothing = there-held place in
    let is_inner : node_kind c.args.spot.node ≢ LeafKind = there-inner place in
    search

pub reserve_for_child-requires : goal.reserve_for_child-requires
reserve_for_child-requires g c =
    let old = c.args.arena.now in
    let place = child-reserved old old c.requires.place (λ pointer. refl) c.ranges.byte.fits in
    let is_inner : node_kind c.args.spot.node ≢ LeafKind = there-inner place in
    search

pub leaf_beside_child-end-requires : goal.leaf_beside_child-end-requires
leaf_beside_child-end-requires g c =
    let reserved = c.reserve_for_child.new.arena in
    let place = child-reserved c.args.arena.now reserved c.requires.place c.reserve_for_child.ensures.nodes_kept c.ranges.byte.fits in
    let has_place : HasGapUnder g.K.AsBytes.text reserved c.args.spot.node c.args.byte = place-there place in
    assumption leaf-pointer-fits

pub link_leaf-leaf-requires : goal.link_leaf-leaf-requires
link_leaf-leaf-requires g c =
    let text = g.K.AsBytes.text in
    let reserved = c.reserve_for_child.new.arena in
    let place = child-reserved c.args.arena.now reserved c.requires.place c.reserve_for_child.ensures.nodes_kept c.ranges.byte.fits in
    let beside = c.leaf_beside_child-end.ensures.beside (place-there place) in
    let sibling = slab_key c.leaf_beside_child-end.result.0 in
    let end = c.leaf_beside_child-end.result.1 in
    let has_room : 0 < room reserved LeafKind = ok-then c.reserve_for_child.result (0 < room reserved LeafKind) c.is_err.ensures.value c.if-is_err.false c.reserve_for_child.ensures.leaf_room in
    let has_gap : HasGap reserved end sibling = child-gap place end sibling beside in
    let order : IsOnSide end (text c.args.key) (text_at text reserved sibling) = child-lies place end sibling beside c.requires.short texts-ascend in
    assumption leaf-pointer-fits

pub add_child-node-requires : goal.add_child-node-requires
add_child-node-requires g c =
    let node = c.args.spot.node in
    let reserved = c.reserve_for_child.new.arena in
    let place = child-reserved c.args.arena.now reserved c.requires.place c.reserve_for_child.ensures.nodes_kept c.ranges.byte.fits in
    let linked = c.link_leaf-leaf.new.arena in
    let leaf = leaf_pointer c.link_leaf-leaf.result in
    let link = c.link_leaf-leaf.ensures in
    let rooms = ok-then c.reserve_for_child.result (HasRoomToGrow reserved node) c.is_err.ensures.value c.if-is_err.false c.reserve_for_child.ensures.room in
    let is_held : held linked node ≢ Nothing = linked-held place linked leaf link.was_free link.others in
    let is_inner : node_kind node ≢ LeafKind = there-inner place in
    let absent : (own : Inner _) → held linked node ≡ HeldInner own → child_at own.children c.args.byte ≡ None = linked-absent place linked leaf link.was_free link.others in
    let full : WhetherFull linked node c.is_full-full.result = linked-full place linked leaf link.was_free link.others (λ own is. c.is_full-full.ensures own (sym (c.reserve_for_child.ensures.nodes_kept node) ∙ is)) in
    let has_room : HasRoomToGrow linked node = linked-room place linked leaf link.was_free link.others rooms link.other_room in
    assumption leaf-pointer-fits

pub put_child_or_root-requires : goal.put_child_or_root-requires
put_child_or_root-requires g c =
    let place = child-reserved c.args.arena.now c.reserve_for_child.new.arena c.requires.place c.reserve_for_child.ensures.nodes_kept c.ranges.byte.fits in
    let linked = c.link_leaf-leaf.new.arena in
    let link = c.link_leaf-leaf.ensures in
    let new = c.add_child-node.new.arena in
    let top = c.add_child-node.result in
    let added = subst (λ child. ChildAdded linked new c.args.spot.node c.args.byte child top) c.to_opaque.ensures c.add_child-node.ensures.added in
    let can : HasChildUnder new c.args.spot.parent c.args.spot.node = child-has_child place linked (leaf_pointer c.link_leaf-leaf.result) link.was_free link.others new top c.args.value link.entry (places-apart g.K.AsBytes.text) added in
    assumption leaf-pointer-fits

pub returns : goal.returns
returns g c =
    let text = g.K.AsBytes.text in
    let (tree, alone, lacks) = c.requires.place in
    let old = c.args.arena.now in
    let reserved = c.reserve_for_child.new.arena in
    let kept = c.reserve_for_child.ensures.nodes_kept in
    let place = child-reserved old reserved c.requires.place kept c.ranges.byte.fits in
    let linked = c.link_leaf-leaf.new.arena in
    let link = c.link_leaf-leaf.ensures in
    let new = c.add_child-node.new.arena in
    let top = c.add_child-node.result in
    let more = subst (λ child. ChildAdded linked new c.args.spot.node c.args.byte child top) c.to_opaque.ensures c.add_child-node.ensures.added in
    let added = child-added place linked (leaf_pointer c.link_leaf-leaf.result) link.was_free link.others new top c.args.value link.entry (places-apart g.K.AsBytes.text) more
    c.put_child_or_root.new.arena c.put_child_or_root.result c.put_child_or_root.ensures.placed c.requires.short c.leaf_beside_child-end.result.1 (slab_key c.leaf_beside_child-end.result.0) (c.leaf_beside_child-end.ensures.beside (place-there place)) link.linked texts-apart in
    record {
      art = added.0;
      leaf = added.2;
      entered = entered-from text old reserved c.put_child_or_root.new.arena c.args.key c.args.value c.args.root tree alone (apart-there alone) kept added.1;
      entry_back = tt;
      nodes_kept = tt;
      no_room = tt;
      memory = grows-on old reserved c.put_child_or_root.new.arena _
          (grows-then old reserved _ _ (child-lacks (child-reserved old old c.requires.place (λ pointer. refl) c.ranges.byte.fits) c.requires.short (apart-there (alone-there (child-reserved old old c.requires.place (λ pointer. refl) c.ranges.byte.fits)))) c.reserve_for_child.ensures.memory)
          (λ kind. same-capacity new c.put_child_or_root.new.arena c.put_child_or_root.ensures.room kind ∙ c.add_child-node.ensures.capacity kind ∙ link.capacity kind);
    }

pub returns-then-is_err : goal.returns-then-is_err
returns-then-is_err g c =
    let old = c.args.arena.now in
    let place = child-reserved old old c.requires.place (λ pointer. refl) c.ranges.byte.fits in
    let (kind, lacks) = err-then c.reserve_for_child.result _ c.is_err.ensures.value c.if-is_err.true c.reserve_for_child.ensures.no_room in
    record {
      art = tt;
      leaf = tt;
      entered = tt;
      entry_back = refl;
      nodes_kept = c.reserve_for_child.ensures.nodes_kept;
      no_room = (kind, child-lacks place c.requires.short (apart-there (alone-there place)) kind lacks);
      memory = grows-then old c.reserve_for_child.new.arena _ _ (child-lacks place c.requires.short (apart-there (alone-there place))) c.reserve_for_child.ensures.memory;
    }

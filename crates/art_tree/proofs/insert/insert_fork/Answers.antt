use Rattle.art_tree.proofs.Names.{◌≡◌, ◌≢◌, ◌<◌, ◌≤◌, ◌∙◌, ◌+◌, ◌-◌, ◌^◌, length, sym, subst, arith, refl, slice_get_within, Node4, LeafKind, slab_key, held, HeldInner, Nothing, room, HoldsLeaf, text_at, TreeAt, HasGap, IsOnSide, HasChildUnder, leaf_pointer, leaf-pointer-fits, places-apart, texts-apart, texts-ascend}
use Rattle.art_nodes.specs.Inner.{Inner}
use Rattle.art_steps.proofs.InsertLemmas.AddedLeaf.{entered-from}
use Rattle.art_tree.proofs.InsertLemmas.NeededFork.{fork-lacks}
use Rattle.art_tree.proofs.InsertLemmas.AddedFork.{alone-there, beside-there, fork-added, fork-has_child, fork-reserved, gap-there, index-within, lies-there, linked-held, new-leaf-held, sibling-held, text-there, tree-there, within-there}
use Rattle.art_steps.proofs.SharedLemmas.RoomLemmas.{grows-on, grows-then, same-capacity, same-room}
use Rattle.art_steps.proofs.SharedLemmas.ParentLemmas.{err-then, ok-then}
use Rattle.art_tree.proofs.SharedLemmas.TreeLaws.{apart-there}
use Rattle.art_tree.proofs.insert.insert_fork.Goals as goal

pub end_leaf-sibling-requires : goal.end_leaf-sibling-requires
end_leaf-sibling-requires g c =
    let reserved = c.reserve_for_fork.new.arena in
    let place = fork-reserved c.args.arena.now reserved c.requires.place c.reserve_for_fork.ensures.nodes_kept c.near_end-end.ensures.bytes in
    let found : TreeAt g.K.AsBytes.text reserved c.args.spot.node = tree-there place in
    assumption leaf-pointer-fits

pub link_leaf-leaf-requires : goal.link_leaf-leaf-requires
link_leaf-leaf-requires g c =
    let text = g.K.AsBytes.text in
    let reserved = c.reserve_for_fork.new.arena in
    let place = fork-reserved c.args.arena.now reserved c.requires.place c.reserve_for_fork.ensures.nodes_kept c.near_end-end.ensures.bytes in
    let end = c.near_end-end.result in
    let sibling = slab_key c.end_leaf-sibling.result in
    let beside = beside-there place end sibling (c.end_leaf-sibling.ensures.at_end (tree-there place)) c.near_end-end.ensures.end in
    let has_room : 0 < room reserved LeafKind = ok-then c.reserve_for_fork.result (0 < room reserved LeafKind) c.is_err.ensures.value c.if-is_err.false c.reserve_for_fork.ensures.leaf_room in
    let has_gap : HasGap reserved end sibling = gap-there place end sibling beside in
    let order : IsOnSide end (text c.args.key) (text_at text reserved sibling) = lies-there place end sibling beside c.requires.short texts-ascend in
    assumption leaf-pointer-fits

pub overflow_add-mismatch : goal.overflow_add-mismatch
overflow_add-mismatch g c =
    let (tree, alone, parts) = c.requires.place in
    omega (arith, slice_get_within (g.K.AsBytes.text c.args.key) c.args.mismatch.index c.args.mismatch.byte parts.byte, c.requires.short)

pub trim-requires : goal.trim-requires
trim-requires g c =
    let spot = c.args.spot in
    let place = fork-reserved c.args.arena.now c.reserve_for_fork.new.arena c.requires.place c.reserve_for_fork.ensures.nodes_kept c.near_end-end.ensures.bytes in
    let end = c.near_end-end.result in
    let sibling = slab_key c.end_leaf-sibling.result in
    let at_end = c.end_leaf-sibling.ensures.at_end (tree-there place) in
    let linked = c.link_leaf-leaf.new.arena in
    let leaf = leaf_pointer c.link_leaf-leaf.result in
    let link = c.link_leaf-leaf.ensures in
    let is_held : held linked spot.node ≢ Nothing = linked-held place linked leaf link.was_free link.others in
    let leaf_held : HoldsLeaf linked sibling = sibling-held place linked leaf link.was_free link.others end sibling at_end in
    let within : (node : Inner _) → held linked spot.node ≡ HeldInner node → c.args.mismatch.index + 1 - spot.depth ≤ node.prefix_len = within-there place linked leaf link.was_free link.others in
    let long : (node : Inner _) → held linked spot.node ≡ HeldInner node → spot.depth + node.prefix_len ≤ length (text_at g.K.AsBytes.text linked sibling) = text-there place linked leaf link.was_free link.others end sibling at_end in
    assumption leaf-pointer-fits

pub fork_node-node-requires : goal.fork_node-node-requires
fork_node-node-requires g c =
    let text = g.K.AsBytes.text in
    let spot = c.args.spot in
    let mismatch = c.args.mismatch in
    let reserved = c.reserve_for_fork.new.arena in
    let place = fork-reserved c.args.arena.now reserved c.requires.place c.reserve_for_fork.ensures.nodes_kept c.near_end-end.ensures.bytes in
    let end = c.near_end-end.result in
    let sibling = slab_key c.end_leaf-sibling.result in
    let at_end = c.end_leaf-sibling.ensures.at_end (tree-there place) in
    let linked = c.link_leaf-leaf.new.arena in
    let slot = slab_key c.link_leaf-leaf.result in
    let leaf = leaf_pointer c.link_leaf-leaf.result in
    let link = c.link_leaf-leaf.ensures in
    let linked = c.link_leaf-leaf.new.arena in
    let trimmed = c.trim.new.arena in
    let is_held : HoldsLeaf trimmed slot = new-leaf-held place linked leaf link.was_free link.others end sibling at_end trimmed c.trim.ensures.leaf c.trim.ensures.trimmed c.args.value link.entry slot refl in
    let ordered : spot.depth ≤ mismatch.index = place.parts.later in
    let within : mismatch.index ≤ length (text_at text trimmed slot) = index-within place linked leaf link.was_free link.others end sibling at_end trimmed c.trim.ensures.leaf c.trim.ensures.trimmed c.args.value link.entry slot refl in
    let short : mismatch.index < 2 ^ 32 = omega (arith, slice_get_within (text c.args.key) mismatch.index mismatch.byte place.parts.byte, c.requires.short) in
    let differ : mismatch.byte ≢ mismatch.node_byte = place.parts.differ in
    let was_room : 0 < room reserved Node4 = ok-then c.reserve_for_fork.result (0 < room reserved Node4) c.is_err.ensures.value c.if-is_err.false c.reserve_for_fork.ensures.node_room in
    let has_room : 0 < room trimmed Node4 = subst (λ n. 0 < n) (sym (same-room linked trimmed c.trim.ensures.room Node4 ∙ link.other_room Node4 (λ e. cc))) was_room in
    assumption leaf-pointer-fits

pub put_child_or_root-requires : goal.put_child_or_root-requires
put_child_or_root-requires g c =
    let place = fork-reserved c.args.arena.now c.reserve_for_fork.new.arena c.requires.place c.reserve_for_fork.ensures.nodes_kept c.near_end-end.ensures.bytes in
    let at_end = c.end_leaf-sibling.ensures.at_end (tree-there place) in
    let link = c.link_leaf-leaf.ensures in
    let new = c.fork_node-node.new.arena in
    let can : HasChildUnder new c.args.spot.parent c.args.spot.node = fork-has_child place c.link_leaf-leaf.new.arena (leaf_pointer c.link_leaf-leaf.result) link.was_free link.others c.near_end-end.result (slab_key c.end_leaf-sibling.result) at_end c.trim.new.arena c.trim.ensures.leaf c.trim.ensures.trimmed c.args.value link.entry (slab_key c.link_leaf-leaf.result) refl
    new c.fork_node-node.result (places-apart g.K.AsBytes.text) c.fork_node-node.ensures in
    assumption leaf-pointer-fits

pub returns : goal.returns
returns g c =
    let text = g.K.AsBytes.text in
    let (tree, alone, parts) = c.requires.place in
    let old = c.args.arena.now in
    let reserved = c.reserve_for_fork.new.arena in
    let kept = c.reserve_for_fork.ensures.nodes_kept in
    let place = fork-reserved old reserved c.requires.place kept c.near_end-end.ensures.bytes in
    let at_end = c.end_leaf-sibling.ensures.at_end (tree-there place) in
    let link = c.link_leaf-leaf.ensures in
    let added = fork-added place c.link_leaf-leaf.new.arena (leaf_pointer c.link_leaf-leaf.result) link.was_free link.others c.near_end-end.result (slab_key c.end_leaf-sibling.result) at_end c.trim.new.arena c.trim.ensures.leaf c.trim.ensures.trimmed c.args.value link.entry (slab_key c.link_leaf-leaf.result) refl
    c.fork_node-node.new.arena c.fork_node-node.result (places-apart g.K.AsBytes.text) c.fork_node-node.ensures c.put_child_or_root.new.arena c.put_child_or_root.result c.put_child_or_root.ensures.placed c.requires.short c.near_end-end.ensures.end link.linked texts-apart in
    record {
      art = added.0;
      leaf = added.2;
      entered = entered-from text old reserved c.put_child_or_root.new.arena c.args.key c.args.value c.args.root tree alone (apart-there alone) kept added.1;
      entry_back = tt;
      nodes_kept = tt;
      no_room = tt;
      memory = grows-on old reserved c.put_child_or_root.new.arena _
          (grows-then old reserved _ _ (fork-lacks (fork-reserved old old c.requires.place (λ pointer. refl) c.near_end-end.ensures.bytes) c.requires.short (apart-there (alone-there (fork-reserved old old c.requires.place (λ pointer. refl) c.near_end-end.ensures.bytes)))) c.reserve_for_fork.ensures.memory)
          (λ kind. same-capacity c.fork_node-node.new.arena c.put_child_or_root.new.arena c.put_child_or_root.ensures.room kind ∙ c.fork_node-node.ensures.capacity kind ∙ same-capacity c.link_leaf-leaf.new.arena c.trim.new.arena c.trim.ensures.room kind ∙ link.capacity kind);
    }

pub returns-then-is_err : goal.returns-then-is_err
returns-then-is_err g c =
    let old = c.args.arena.now in
    let place = fork-reserved old old c.requires.place (λ pointer. refl) c.near_end-end.ensures.bytes in
    let (kind, lacks) = err-then c.reserve_for_fork.result _ c.is_err.ensures.value c.if-is_err.true c.reserve_for_fork.ensures.no_room in
    record {
      art = tt;
      leaf = tt;
      entered = tt;
      entry_back = refl;
      nodes_kept = c.reserve_for_fork.ensures.nodes_kept;
      no_room = (kind, fork-lacks place c.requires.short (apart-there (alone-there place)) kind lacks);
      memory = grows-then old c.reserve_for_fork.new.arena _ _ (fork-lacks place c.requires.short (apart-there (alone-there place))) c.reserve_for_fork.ensures.memory;
    }

use Rattle.art_tree.proofs.Names.{◌∙◌, ◌≡◌, ◌≢◌, ◌<◌, ◌≤◌, ◌+◌, ◌^◌, ◌++◌, ◌∷◌, ℕ, List, length, lit<, node_kind, slab_key, held, HeldInner, Nothing, IsLinkedList, HasChildUnder, LeafKind}
use Rattle.art_nodes.specs.Inner.{Inner}
use Rattle.art_steps.proofs.SharedLemmas.RoomLemmas.{same-capacity}
use Rattle.art_tree.proofs.RemoveLemmas.MergedNode.{child-held, parent-held, parent-joined, parent-two, short-there, two-has_child, two-removed}
use Rattle.art_tree.proofs.RemoveLemmas.LeafParent.{leaf-place}
use Rattle.art_tree.proofs.RemoveLemmas.RemovalLemmas.{frees-two}
use Rattle.art_tree.proofs.remove.remove_from_two.Goals as goal

pub take_leaf-entry-requires : goal.take_leaf-entry-requires
take_leaf-entry-requires g c =
    let (tree, alone, parents) = c.requires.place in
    let listed : (left right : List ℕ) × IsLinkedList c.args.arena.now (left ++ slab_key c.args.leaf ∷ right) = (_, _, (leaf-place alone parents).is_linked) in
    search

pub other_child-other_byte-requires : goal.other_child-other_byte-requires
other_child-other_byte-requires g c =
    let (tree, alone, parents) = c.requires.place in
    let place = leaf-place alone parents in
    let parent = c.args.spot.parent in
    let taken = c.take_leaf-entry.ensures in
    let without = c.take_leaf-entry.new.arena in
    let is_held : held without parent ≢ Nothing = parent-held place c.requires.two taken in
    let is_inner : node_kind parent ≢ LeafKind = place.inner in
    let has_two : (node : Inner _) → held without parent ≡ HeldInner node → 2 ≤ length node.children = parent-two place c.requires.two taken in
    -- the size in memory of an opaque pointer
    let fits : 16 < 2 ^ 63 = lit< tt in
    search

pub join_prefix-requires : goal.join_prefix-requires
join_prefix-requires g c =
    let (tree, alone, parents) = c.requires.place in
    let place = leaf-place alone parents in
    let parent = c.args.spot.parent in
    let taken = c.take_leaf-entry.ensures in
    let without = c.take_leaf-entry.new.arena in
    let (other, child) = c.other_child-other_byte.result in
    let is_held : held without parent ≢ Nothing = parent-held place c.requires.two taken in
    let is_inner : node_kind parent ≢ LeafKind = place.inner in
    let has_child : held without child ≢ Nothing = child-held place c.requires.two taken other child c.other_child-other_byte.ensures in
    let short : (upper lower : Inner _) → held without parent ≡ HeldInner upper → held without child ≡ HeldInner lower → upper.prefix_len + (1 + lower.prefix_len) < 2 ^ 32 = short-there place c.requires.two taken other child c.other_child-other_byte.ensures in
    assumption

pub deallocate-requires : goal.deallocate-requires
deallocate-requires g c =
    let (tree, alone, parents) = c.requires.place in
    let place = leaf-place alone parents in
    let parent = c.args.spot.parent in
    let (other, child) = c.other_child-other_byte.result in
    let joined = c.join_prefix.new.arena in
    let is_held : held joined parent ≢ Nothing = parent-joined place c.requires.two c.take_leaf-entry.ensures other child c.other_child-other_byte.ensures joined c.join_prefix.ensures.leaf c.join_prefix.ensures.joined in
    let is_inner : node_kind parent ≢ LeafKind = place.inner in
    assumption

pub put_child_or_root-root-requires : goal.put_child_or_root-root-requires
put_child_or_root-root-requires g c =
    let (tree, alone, parents) = c.requires.place in
    let (other, child) = c.other_child-other_byte.result in
    let joined = c.join_prefix.new.arena in
    let new = c.deallocate.new.self in
    let can : HasChildUnder new c.args.spot.above c.args.spot.parent = two-has_child (leaf-place alone parents) c.requires.two c.take_leaf-entry.ensures other child c.other_child-other_byte.ensures joined c.join_prefix.ensures.leaf c.join_prefix.ensures.joined new c.deallocate.ensures.removed in
    assumption

pub returns : goal.returns
returns g c = λ tree alone parents.
    let place = leaf-place alone parents in
    let taken = c.take_leaf-entry.ensures in
    let (other, child) = c.other_child-other_byte.result in
    let joined = c.join_prefix.new.arena in
    let new = c.deallocate.new.self in
    let frees = c.deallocate.ensures in
    record {
      is_removed = two-removed place c.requires.two taken other child c.other_child-other_byte.ensures joined c.join_prefix.ensures.leaf c.join_prefix.ensures.joined new frees.removed c.put_child_or_root-root.new.arena c.put_child_or_root-root.result c.put_child_or_root-root.ensures.placed;
      frees = frees-two c.args.arena.now c.take_leaf-entry.new.arena joined new c.put_child_or_root-root.new.arena (node_kind c.args.spot.parent) place.inner taken.frees c.join_prefix.ensures.room (record { one_more = frees.takes_no_memory; others = frees.other_room; capacity = frees.capacity }) c.put_child_or_root-root.ensures.room;
      capacity = λ kind. same-capacity new c.put_child_or_root-root.new.arena c.put_child_or_root-root.ensures.room kind ∙ frees.capacity kind ∙ same-capacity c.take_leaf-entry.new.arena joined c.join_prefix.ensures.room kind ∙ taken.frees.capacity kind;
    }

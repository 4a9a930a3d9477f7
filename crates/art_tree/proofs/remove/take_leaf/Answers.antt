use Rattle.art_tree.proofs.Names.{slab_key, HoldsLeaf, IsKnit, LeafKind, knit-member}
use Rattle.art_tree.proofs.RemoveLemmas.RemovalLemmas.{frees-after, left-list, no-less-room, others-left, still-held, taken-entry}
use Rattle.art_tree.proofs.remove.take_leaf.Goals as goal

pub remove_self-requires : goal.remove_self-requires
remove_self-requires g c =
    let list = c.requires in
    let knit : IsKnit c.args.arena.now (slab_key c.args.leaf) = knit-member c.args.arena.now list.0 list.1 (slab_key c.args.leaf) list.2 in
    search

pub deallocate_node_ptr-requires : goal.deallocate_node_ptr-requires
deallocate_node_ptr-requires g c =
    let this = slab_key c.args.leaf in
    let list = c.requires in
    let is_held : HoldsLeaf c.remove_self.new.arena this = still-held c.args.arena.now c.remove_self.new.arena this c.remove_self.ensures.contents (knit-member c.args.arena.now list.0 list.1 this list.2) in
    search

pub returns : goal.returns
returns g c =
    let old = c.args.arena.now in
    let this = slab_key c.args.leaf in
    let out = c.remove_self in
    let taken = c.deallocate_node_ptr in
    let linked = out.new.arena in
    let new = taken.new.self in
    record {
      entry = λ node is. taken-entry old linked this out.ensures.contents taken.result node taken.ensures.node is c.into_entry.result c.into_entry.ensures.key c.into_entry.ensures.value;
      gone = taken.ensures.removed.changed;
      is_linked = λ left right is_linked. left-list old linked this out.ensures.contents new taken.ensures.removed left right is_linked (out.ensures.linked left right is_linked);
      others = others-left old linked this out.ensures.contents new taken.ensures.removed;
      room = no-less-room old linked new out.ensures.room taken.ensures.room taken.ensures.other_room;
      frees = frees-after old linked new LeafKind out.ensures.room (record { one_more = taken.ensures.takes_no_memory; others = taken.ensures.other_room; capacity = taken.ensures.capacity });
    }

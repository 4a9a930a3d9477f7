use Rattle.std.proofs.Common.{◌≡◌, ◌≢◌, Option, Some, None, refl, ap}
use Rattle.std.proofs.lemmas.List.Elements.{All-weaker}
use Rattle.art_header.specs.declared.node_type.NodeType.TheVariants as NodeType
use Rattle.art_nodes.specs.Pointers.{opaque_key, opaque_pointer, slab_key}
use Rattle.art_arena.specs.Arena.{Held, HeldLeaf, held, held_leaf}
use Rattle.art_arena.specs.Links.{leaf_at}
use Rattle.art_arena.specs.Trees.{places}
use Rattle.art_tree_tests.proofs.arena.leaf_links.link_examples.deallocate_leaf.Goals as goal

leaf-in : {H L : Type 0} (a b : Option L) → ◌≡◌ {A = Held H L} (held_leaf a) (held_leaf b) → a ≡ b
leaf-in None None same = refl
leaf-in None (Some leaf) same = absurd (cc)
leaf-in (Some leaf) None same = absurd (cc)
leaf-in {H = H} {L = L} (Some leaf) (Some other) same = let one : ◌≡◌ {A = Held H L} (HeldLeaf leaf) (HeldLeaf other) = same in cc

pub returns-clause-list : goal.returns-clause-list
returns-clause-list g c = λ leaves others is_linked.
    let old = c.args.arena.now in
    let new = c.deallocate_node_ptr.new.self in
    let gone = slab_key c.args.leaf in
    c.lists_are_spelled_where_their_leaves_are_kept.ensures old new leaves
    (All-weaker (λ key. key ≢ gone) (λ key. leaf_at new key ≡ leaf_at old key) (λ key differs. leaf-in (leaf_at new key) (leaf_at old key) (c.deallocate_node_ptr.ensures.removed.others (opaque_pointer NodeType.Leaf key) (λ same. differs (ap opaque_key same)))) leaves others) is_linked

pub returns-clause-tree : goal.returns-clause-tree
returns-clause-tree g c = λ root tree others is.
    let old = c.args.arena.now in
    let new = c.deallocate_node_ptr.new.self in
    record {
      at_root = is.at_root;
      stands = c.trees_stand_where_their_nodes_are_kept.ensures old new tree (All-weaker (λ pointer. pointer ≢ opaque_pointer NodeType.Leaf (slab_key c.args.leaf)) (λ pointer. held new pointer ≡ held old pointer) c.deallocate_node_ptr.ensures.removed.others (places tree) others) is.stands;
      sound = is.sound;
    }

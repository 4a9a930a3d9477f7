use Rattle.art_tree.proofs.Names.{◌∙◌, ℕ, List, sym, subst, ◌≡◌, ◌≢◌, ◌↔◌, ◌++◌, ◌∷◌, [], IsTrue, length, Tree, IsAlone, IsLeafSpot, leaf_pointer, leaf-pointer-fits, spot-fits, least_children, node_kind, slab_key, held, HeldInner, Nothing, IsLinkedList, WhetherFewest, LeafKind, RemovesEntry}
use Rattle.art_tree.proofs.RemoveLemmas.RemovalLemmas.{frees-entry, root-reached, root-removed, frees-entry-at}
use Rattle.art_nodes.specs.Inner.{Inner}
use Rattle.art_tree.proofs.RemoveLemmas.LeafParent.{leaf-place}
use Rattle.art_tree.proofs.remove.remove_leaf.Goals as goal

pub take_leaf-requires : goal.take_leaf-requires
take_leaf-requires g c =
    let alone = root-reached c.requires.1 c.in_default.ensures.root in
    let listed : (left right : List ℕ) × IsLinkedList c.args.arena.now (left ++ slab_key c.args.leaf ∷ right) = ([], [], alone.is_linked) in
    assumption (leaf-pointer-fits, spot-fits)

pub returns-in_default : goal.returns-in_default
returns-in_default g c = λ x at. frees-entry (root-removed (root-reached at c.in_default.ensures.root) c.take_leaf.ensures)

pub num_children-count-requires : goal.num_children-count-requires
num_children-count-requires g c =
    let (x, at) = c.requires in
    let place = leaf-place at.alone (c.in-Some.ensures.spot at.tree (leaf_pointer c.args.leaf) x at.at_path).0 in
    let is_held : held c.args.arena.now c.in-Some.spot.parent ≢ Nothing = place.some_held in
    let is_inner : node_kind c.in-Some.spot.parent ≢ LeafKind = place.inner in
    search

pub remove_from_two-requires : goal.remove_from_two-requires
remove_from_two-requires g c =
    let (x, at) = c.requires in
    let parents = (c.in-Some.ensures.spot at.tree (leaf_pointer c.args.leaf) x at.at_path).0 in
    let place : (tree : Tree _) × IsAlone g.K.AsBytes.text c.args.arena.now c.args.root tree × IsLeafSpot tree (leaf_pointer c.args.leaf) c.in-Some.spot = (at.tree, at.alone, parents) in
    let two : (node : Inner _) → held c.args.arena.now c.in-Some.spot.parent ≡ HeldInner node → length node.children ≡ 2 = λ node is. sym (c.num_children-count.ensures.count node is) ∙ c.if-count-eq2.true in
    assumption (leaf-pointer-fits, spot-fits)

pub returns-then-count-eq2 : goal.returns-then-count-eq2
returns-then-count-eq2 g c = λ x at.
    let (parents, has) = c.in-Some.ensures.spot at.tree (leaf_pointer c.args.leaf) x at.at_path in
    frees-entry-at has (c.remove_from_two.ensures at.tree at.alone parents)

pub remove_from_many-requires : goal.remove_from_many-requires
remove_from_many-requires g c =
    let (x, at) = c.requires in
    let parents = (c.in-Some.ensures.spot at.tree (leaf_pointer c.args.leaf) x at.at_path).0 in
    let place : (tree : Tree _) × IsAlone g.K.AsBytes.text c.args.arena.now c.args.root tree × IsLeafSpot tree (leaf_pointer c.args.leaf) c.in-Some.spot = (at.tree, at.alone, parents) in
    let many : (node : Inner _) → held c.args.arena.now c.in-Some.spot.parent ≡ HeldInner node → length node.children ≢ 2 = λ node is two. c.if-count-eq2.false (c.num_children-count.ensures.count node is ∙ two) in
    let tells : WhetherFewest c.args.arena.now c.in-Some.spot.parent c.are_fewest-fewest.result =
    λ node is. subst (λ kind. IsTrue c.are_fewest-fewest.result ↔ (length node.children ≡ least_children kind)) c.node_type.ensures (subst (λ n. IsTrue c.are_fewest-fewest.result ↔ (n ≡ least_children c.node_type.result)) (c.num_children-count.ensures.count node is) c.are_fewest-fewest.ensures) in
    assumption (leaf-pointer-fits, spot-fits)

pub returns : goal.returns
returns g c = λ x at.
    let (parents, has) = c.in-Some.ensures.spot at.tree (leaf_pointer c.args.leaf) x at.at_path in
    subst (λ y. RemovesEntry g.K.AsBytes.text c.args.arena.now c.remove_from_many.new.arena c.args.root y c.remove_from_many.result) has (c.remove_from_many.ensures at.tree at.alone parents)

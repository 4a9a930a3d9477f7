use Rattle.art_tree.proofs.Names.{◌≡◌, subst, sym, ℕ, List, slab_key, opaque_key, IsAtEnd, TreeAt, leaves, at-some, leaf-pointer-is, IsAtPath}
use Rattle.art_tree.proofs.RemoveLemmas.EndWays.{end-found, end-start, end-step, tree-there}
use Rattle.art_tree.proofs.remove.end_place.end_place.Goals as goal

pub way-init : goal.way-init
way-init g c = λ tree is. end-start g.K.AsBytes.text c.args.arena.now c.args.end c.args.root tree is c.default-visits.result c.default-visits.ensures

pub child_at_end-requires : goal.child_at_end-requires
child_at_end-requires g c =
    let text = g.K.AsBytes.text in
    let arena = c.args.arena.now in
    let (tree, is) = c.requires.tree in
    let there : TreeAt text arena c.way.at = tree-there text arena c.args.end c.args.root tree is c.way.visits c.way.at (c.way.invariant tree is) in
    search

pub way-preserved : goal.way-preserved
way-preserved g c = λ tree is.
    let (node, holds, pair) = c.in-Some.ensures.child in
    (end-step g.K.AsBytes.text c.args.arena.now c.args.end c.args.root tree is c.way.visits c.way.at (c.way.invariant tree is) node c.in-Some.byte c.in-Some.child holds pair c.visit_inner_node.new.self c.visit_inner_node.ensures).0

pub way-smaller : goal.way-smaller
way-smaller g c =
    let (tree, is) = c.requires.tree in
    let (node, holds, pair) = c.in-Some.ensures.child in
    (end-step g.K.AsBytes.text c.args.arena.now c.args.end c.args.root tree is c.way.visits c.way.at (c.way.invariant tree is) node c.in-Some.byte c.in-Some.child holds pair c.visit_inner_node.new.self c.visit_inner_node.ensures).1

pub unwrap-requires : goal.unwrap-requires
unwrap-requires g c = c.cast.ensures.kind.1 c.in-None.ensures.leaf

pub returns-in-None-clause-path : goal.returns-in-None-clause-path
returns-in-None-clause-path g c = λ tree is.
    let at = sym (leaf-pointer-is c.way.at c.unwrap.result c.in-None.ensures.leaf (at-some (λ leaf. slab_key leaf ≡ opaque_key c.way.at) c.cast.result c.unwrap.result c.unwrap.ensures c.cast.ensures.key)) in
    subst (λ pointer. (x : List ℕ) × IsAtPath tree pointer c.finish.result x) at (end-found g.K.AsBytes.text c.args.arena.now c.args.end c.args.root tree is c.way.visits c.way.at (c.way.invariant tree is) c.in-None.ensures.leaf c.finish.result (λ steps visited. (c.finish.ensures steps).0 visited)).0

pub returns-in-None-clause-at_end : goal.returns-in-None-clause-at_end
returns-in-None-clause-at_end g c = λ tree is.
    let at = sym (leaf-pointer-is c.way.at c.unwrap.result c.in-None.ensures.leaf (at-some (λ leaf. slab_key leaf ≡ opaque_key c.way.at) c.cast.result c.unwrap.result c.unwrap.ensures c.cast.ensures.key)) in
    subst (IsAtEnd c.args.end (leaves tree)) at (end-found g.K.AsBytes.text c.args.arena.now c.args.end c.args.root tree is c.way.visits c.way.at (c.way.invariant tree is) c.in-None.ensures.leaf c.finish.result (λ steps visited. (c.finish.ensures steps).0 visited)).1

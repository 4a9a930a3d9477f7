use Rattle.art_steps.proofs.Names.{TreeAt, leaf_pointer}
use Rattle.art_steps.proofs.PlaceLemmas.ChildrenBeside.{leaf-beside, some-beside, tree-beside}
use Rattle.art_steps.proofs.place.leaf_beside_child.Goals as goal

pub unreachable-requires : goal.unreachable-requires
unreachable-requires g c = some-beside g.K.AsBytes.text c.args.arena.now c.args.pointer c.args.byte c.requires c.in_default.ensures.none

pub end_leaf-requires : goal.end_leaf-requires
end_leaf-requires g c =
    let text = g.K.AsBytes.text in
    let arena = c.args.arena.now in
    let found : TreeAt text arena c.in-Some.child = tree-beside text arena c.args.pointer c.args.byte c.requires c.in-Some.end c.in-Some.child c.in-Some.ensures.child in
    search

pub returns-clause-beside : goal.returns-clause-beside
returns-clause-beside g c = λ place.
    let text = g.K.AsBytes.text in
    let arena = c.args.arena.now in
    let beside = c.in-Some.ensures.child in
    leaf-beside text arena c.args.pointer c.args.byte place c.in-Some.end c.in-Some.child beside (leaf_pointer c.end_leaf.result)
    (c.end_leaf.ensures.at_end (tree-beside text arena c.args.pointer c.args.byte place c.in-Some.end c.in-Some.child beside))

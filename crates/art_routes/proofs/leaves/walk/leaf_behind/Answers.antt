use Rattle.art_routes.proofs.LeafNames.{ap, held, leaf_at, leaf_pointer, next_key, option_and_then, option_map, slab_key, sym, ◌∙◌}
use Rattle.art_routes.specs.Keys.{key_text}
use Rattle.art_routes.proofs.SplitLemmas.{alone-there, cut-behind}
use Rattle.art_routes.proofs.ListLemmas.{slot-of}
use Rattle.art_routes.proofs.leaves.walk.leaf_behind.Goals as goal

pub returns : goal.returns
returns g c = λ before entry after cut.
    let arena = c.args.tree.now.arena in
    let key = slab_key c.args.leaf in
    let (root, tree, alone) = alone-there key_text arena key cut.1.0 cut.1.2 c.args.tree.now.root c.root-root.ensures.one_tree in
    let here = slot-of (leaf_at arena key) c.as_ref.result.now (ap (λ seen. held seen (leaf_pointer c.args.leaf)) (sym c.arena.ensures.arena) ∙ c.as_ref.ensures) in
    cut-behind key_text arena root tree alone before key entry after cut (option_map slab_key c.next.result) (c.next.ensures ∙ sym (ap (option_and_then next_key) here))

use Rattle.art_routes.proofs.LeafNames.{CalledAtPair, ap, leaf_at, leaf_key, leaf_value, option_map, refl, same_Some, slab_key, sym, with_value_at, ◌∙◌}
use Rattle.art_routes.specs.Keys.{key_text}
use Rattle.art_routes.proofs.CalledLemmas.{held-slot}
use Rattle.art_routes.proofs.SplitLemmas.{alone-there, cut-changed, entry-is}
use Rattle.art_routes.proofs.leaves.walk.test_at.Goals as goal

pub f-requires : goal.f-requires
f-requires g c =
    let lent = c.as_key_ref_value_mut-value in
    let (leaf, there) = held-slot (leaf_at c.args.tree.now.arena (slab_key c.args.leaf)) c.requires.held in
    let same_key = same_Some _ _ (sym lent.ensures.key ∙ ap (option_map leaf_key) there) in
    let same_value = same_Some _ _ (sym lent.ensures.value ∙ ap (option_map leaf_value) there) in
    c.requires.accepted leaf there _ _ same_key same_value

pub returns : goal.returns
returns g c = λ before entry after cut.
    let arena = c.args.tree.now.arena in
    let key = slab_key c.args.leaf in
    let lent = c.as_key_ref_value_mut-value in
    let leaf = cut.1.0 in
    let there = cut.1.2 in
    let (root, tree, alone) = alone-there key_text arena key leaf there c.args.tree.now.root c.root-root.ensures.one_tree in
    let value = c.f.new.arg3 in
    let f = c.f.new.self in
    let new = with_value_at arena key value in
    let changes = lent.ensures.changes leaf value there in
    let is = entry-is key_text arena root tree alone before key entry after cut in
    let same_key = same_Some _ _ (sym lent.ensures.key ∙ ap (option_map leaf_key) there) ∙ sym (ap (λ e. e.0) is) in
    let same_value = same_Some _ _ (sym lent.ensures.value ∙ ap (option_map leaf_value) there) ∙ sym (ap (λ e. e.1) is) in
    let called : CalledAtPair g.F.FnMut c.args.f.now entry.0 entry.1 c.f.result value f = record { key = _; value = _; shows = (same_key, same_value); left = _; called = c.f.ensures; leaves = refl } in
    (value, called, cut-changed key_text arena root tree alone before key entry after cut new value changes)

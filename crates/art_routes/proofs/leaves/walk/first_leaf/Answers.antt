use Rattle.art_routes.proofs.LeafNames.{Before, HoldsFirst, IsAlone, IsArt, [], entries_of, option_map, slab_key, subst, sym, ◌∙◌}
use Rattle.art_routes.specs.Keys.{key_text}
use Rattle.art_routes.proofs.EntryLemmas.{no-entries}
use Rattle.art_routes.proofs.SplitLemmas.{first-held}
use Rattle.art_routes.proofs.leaves.walk.first_leaf.Goals as goal

pub returns-in_err-root : goal.returns-in_err-root
returns-in_err-root g c =
    let arena = c.args.tree.now.arena in
    let art = subst (IsArt key_text arena) (sym c.root.ensures.root ∙ c.in_err-root.was) c.root.ensures.one_tree in
    subst (λ o. HoldsFirst arena (option_map slab_key o) (entries_of key_text arena)) (sym c.from_residual.ensures) (no-entries key_text arena art)

pub returns : goal.returns
returns g c =
    let root = c.in_ok-root.root in
    let rooted = sym c.root.ensures.root ∙ c.in_ok-root.was in
    let (tree, alone) = subst (IsArt key_text c.args.tree.now.arena) rooted c.root.ensures.one_tree in
    let there = subst (λ a. IsAlone key_text a root tree) (sym c.arena-arena.ensures.arena) alone in
    first-held alone c.leaf_toward.result (c.leaf_toward.ensures root tree Before [] there (c.leaf_beside-beside.ensures.beside tree there.is_tree))

use Rattle.std.proofs.Common.{◌∙◌, rules, sym, subst}
use Rattle.art_arena.specs.Standing.{TreeAt}
use Rattle.art_steps.specs.Art.{IsArt}
use Rattle.art_index.specs.Places.{IsFirst}
use Rattle.art_index.proofs.LinkLemmas.{first-placed}
use Rattle.art_index.proofs.PlaceLemmas.{no-entries, whole-at}
use Rattle.art_index.proofs.pages.first_page.Goals as goal

pub returns-in_err-root : goal.returns-in_err-root
returns-in_err-root g c =
    let text = g.A.AsBytes.text in
    let arena = c.args.tree.now.arena in
    let art = subst (IsArt text arena) (sym c.root.ensures.root ∙ c.in_err-root.was) c.root.ensures.one_tree in
    subst (IsFirst text arena) (sym c.from_residual.ensures) (no-entries text arena art)

pub end_leaf-requires : goal.end_leaf-requires
end_leaf-requires g c =
    let text = g.A.AsBytes.text in
    let (tree, alone) = subst (IsArt text c.args.tree.now.arena) (sym c.root.ensures.root ∙ c.in_ok-root.was) c.root.ensures.one_tree in
    let found : TreeAt text c.arena.result.now c.in_ok-root.root = whole-at alone c.arena.result.now (sym c.arena.ensures.arena) in
    search rules

pub returns : goal.returns
returns g c =
    let text = g.A.AsBytes.text in
    let (tree, alone) = subst (IsArt text c.args.tree.now.arena) (sym c.root.ensures.root ∙ c.in_ok-root.was) c.root.ensures.one_tree in
    first-placed alone c.end_leaf.result (c.end_leaf.ensures.at_end (whole-at alone c.arena.result.now (sym c.arena.ensures.arena)))

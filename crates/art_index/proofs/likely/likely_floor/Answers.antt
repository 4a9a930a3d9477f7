use Rattle.std.proofs.Common.{◌∙◌, rules, refl, sym, subst, IfSome}
use Rattle.art_arena.specs.Trees.{leaves}
use Rattle.art_steps.specs.Art.{IsAlone, IsArt}
use Rattle.art_index.specs.Descent.{IsDeep}
use Rattle.art_index.specs.Places.{IsPlaced}
use Rattle.art_index.proofs.LinkLemmas.{placed-up-to}
use Rattle.art_index.proofs.PlaceLemmas.{whole-at}
use Rattle.art_index.proofs.likely.likely_floor.Goals as goal

pub node_likely_beside-end-requires : goal.node_likely_beside-end-requires
node_likely_beside-end-requires g c =
    let text = g.A.AsBytes.text in
    let (tree, alone) = subst (IsArt text c.args.tree.now.arena) (sym c.root.ensures.root ∙ c.in_ok-root.was) c.root.ensures.one_tree in
    let there : IsDeep text c.arena-arena.result.now c.in_ok-root.root 0 = record { found = whole-at alone c.arena-arena.result.now (sym c.arena-arena.ensures.arena); deep = refl } in
    search rules

pub returns : goal.returns
returns g c =
    let text = g.A.AsBytes.text in
    let root = c.in_ok-root.root in
    let (tree, alone) = subst (IsArt text c.args.tree.now.arena) (sym c.root.ensures.root ∙ c.in_ok-root.was) c.root.ensures.one_tree in
    let there = subst (λ a. IsAlone text a root tree) (sym c.arena-arena.ensures.arena) alone in
    subst (λ a. IfSome c.leaf_up_to.result (IsPlaced text a)) c.arena-arena.ensures.arena
    (placed-up-to root tree there c.node_likely_beside-end.result.1 (leaves c.node_likely_beside-end.ensures.tree) c.leaf_up_to.result (c.leaf_up_to.ensures c.node_likely_beside-end.ensures))

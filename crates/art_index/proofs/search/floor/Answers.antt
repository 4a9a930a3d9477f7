use Rattle.std.proofs.Common.{◌≡◌, ◌∙◌, rules, sym, subst}
use Rattle.std.proofs.lemmas.List.Elements.{All-nil}
use Rattle.std.specs.declared.cmp.Ordering.TheVariants.{Greater}
use Rattle.art_bytes.specs.Text.{text_order}
use Rattle.art_arena.specs.Standing.{TreeAt}
use Rattle.art_steps.specs.Art.{IsAlone, IsArt}
use Rattle.art_search.specs.Search.{HasTree}
use Rattle.art_index.specs.Places.{AllTextsAbove, IsFloorFound}
use Rattle.art_index.proofs.DescentLemmas.{part-at}
use Rattle.art_index.proofs.FloorLemmas.{floor-up-to}
use Rattle.art_index.proofs.PlaceLemmas.{no-entries}
use Rattle.art_index.proofs.search.floor.Goals as goal

pub returns-in_err-root : goal.returns-in_err-root
returns-in_err-root g c =
    let text = g.A.AsBytes.text in
    let arena = c.args.tree.now.arena in
    let x = g.Q.RadixQuery.encoded c.args.query in
    let art = subst (IsArt text arena) (sym c.root.ensures.root ∙ c.in_err-root.was) c.root.ensures.one_tree in
    subst (IsFloorFound text arena x) (sym c.from_residual.ensures)
    (subst (AllTextsAbove text x) (sym (no-entries text arena art)) (All-nil (λ entry. text_order (text entry.0) x ≡ Greater)))

pub node_beside-end-requires : goal.node_beside-end-requires
node_beside-end-requires g c =
    let text = g.A.AsBytes.text in
    let root = c.in_ok-root.root in
    let (tree, alone) = subst (IsArt text c.args.tree.now.arena) (sym c.root.ensures.root ∙ c.in_ok-root.was) c.root.ensures.one_tree in
    let there : HasTree text c.arena-arena.result.now root = (tree, (subst (λ a. IsAlone text a root tree) (sym c.arena-arena.ensures.arena) alone).is_tree) in
    search rules

pub leaf_up_to-requires : goal.leaf_up_to-requires
leaf_up_to-requires g c =
    let text = g.A.AsBytes.text in
    let root = c.in_ok-root.root in
    let (tree, alone) = subst (IsArt text c.args.tree.now.arena) (sym c.root.ensures.root ∙ c.in_ok-root.was) c.root.ensures.one_tree in
    let there = subst (λ a. IsAlone text a root tree) (sym c.arena-arena.ensures.arena) alone in
    let found : TreeAt text c.arena-arena.result.now c.node_beside-end.result.0 = part-at (c.node_beside-end.ensures tree there.is_tree).part in
    search rules

pub returns : goal.returns
returns g c =
    let text = g.A.AsBytes.text in
    let x = g.Q.RadixQuery.encoded c.args.query in
    let root = c.in_ok-root.root in
    let (tree, alone) = subst (IsArt text c.args.tree.now.arena) (sym c.root.ensures.root ∙ c.in_ok-root.was) c.root.ensures.one_tree in
    let there = subst (λ a. IsAlone text a root tree) (sym c.arena-arena.ensures.arena) alone in
    let beside = c.node_beside-end.ensures tree there.is_tree in
    subst (λ a. IsFloorFound text a x c.leaf_up_to.result) c.arena-arena.ensures.arena
    (floor-up-to there x c.node_beside-end.result.0 c.node_beside-end.result.1 beside c.leaf_up_to.result (c.leaf_up_to.ensures (part-at beside.part)))

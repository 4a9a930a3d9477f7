use Rattle.std.proofs.Common.{◌≡◌, ◌∙◌, ◌<◌, ap, sym, subst}
use Rattle.art_map.specs.Ends.{IsEmptyBehind}
use Rattle.art_map.proofs.EndLemmas.{last-behind, previous-behind, previous-fewer, leaves-up-to}
use Rattle.art_map.proofs.ends.last_filled_leaf.Goals as goal

pub leaves-init : goal.leaves-init
leaves-init g c = last-behind c.args.tree.now.arena c.last_page-at.result c.last_page-at.ensures

pub leaves-smaller : goal.leaves-smaller
leaves-smaller g c =
    let arena = c.args.tree.now.arena in
    let at = subst (IsEmptyBehind arena) c.in-Some.is c.leaves.invariant in
    subst (λ old. leaves-up-to arena c.previous_page-at.result < leaves-up-to arena old) (sym c.in-Some.is)
    (previous-fewer arena c.in-Some.leaf at.0 c.previous_page-at.result (c.previous_page-at.ensures at.0))

pub leaves-preserved : goal.leaves-preserved
leaves-preserved g c =
    let arena = c.args.tree.now.arena in
    let at = subst (IsEmptyBehind arena) c.in-Some.is c.leaves.invariant in
    previous-behind arena c.in-Some.leaf at.0 at.1
    (ap (λ (leaf : _). leaf.1.entries) (sym (c.page.ensures at.0)) ∙ c.is_empty.ensures.0 c.if-is_empty.true)
    c.previous_page-at.result (c.previous_page-at.ensures at.0)

pub returns-else-is_empty : goal.returns-else-is_empty
returns-else-is_empty g c =
    let at = subst (IsEmptyBehind c.args.tree.now.arena) c.in-Some.is c.leaves.invariant in (
      at.0,
      at.1,
      λ none.
          let yes = c.is_empty.ensures.1 (ap (λ (leaf : _). leaf.1.entries) (c.page.ensures at.0) ∙ none) in
          let no = c.if-is_empty.false in cc,
    )

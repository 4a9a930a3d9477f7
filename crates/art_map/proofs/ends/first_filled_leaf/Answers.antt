use Rattle.std.proofs.Common.{◌∙◌, ◌<◌, ap, sym, subst}
use Rattle.art_map.specs.Ends.{IsEmptyBefore}
use Rattle.art_map.proofs.EndLemmas.{first-before, next-before, next-fewer, leaves-left}
use Rattle.art_map.proofs.ends.first_filled_leaf.Goals as goal

pub leaves-init : goal.leaves-init
leaves-init g c = first-before c.args.tree.now.arena c.first_page-at.result c.first_page-at.ensures

pub leaves-smaller : goal.leaves-smaller
leaves-smaller g c =
    let arena = c.args.tree.now.arena in
    let at = subst (IsEmptyBefore arena) c.in-Some.is c.leaves.invariant in
    subst (λ old. leaves-left arena c.next_page-at.result < leaves-left arena old) (sym c.in-Some.is)
    (next-fewer arena c.in-Some.leaf at.0 c.next_page-at.result (c.next_page-at.ensures at.0))

pub leaves-preserved : goal.leaves-preserved
leaves-preserved g c =
    let arena = c.args.tree.now.arena in
    let at = subst (IsEmptyBefore arena) c.in-Some.is c.leaves.invariant in
    next-before arena c.in-Some.leaf at.0 at.1
    (ap (λ (leaf : _). leaf.1.entries) (sym (c.page.ensures at.0)) ∙ c.is_empty.ensures.0 c.if-is_empty.true)
    c.next_page-at.result (c.next_page-at.ensures at.0)

pub returns-else-is_empty : goal.returns-else-is_empty
returns-else-is_empty g c =
    let at = subst (IsEmptyBefore c.args.tree.now.arena) c.in-Some.is c.leaves.invariant in (
      at.0,
      at.1,
      λ none.
          let yes = c.is_empty.ensures.1 (ap (λ (leaf : _). leaf.1.entries) (c.page.ensures at.0) ∙ none) in
          let no = c.if-is_empty.false in cc,
    )

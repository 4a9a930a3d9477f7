use Rattle.std.proofs.Common.{◌≡◌, ◌∙◌, true, false, sym}
use Rattle.art_links.proofs.leaf_links.LeafNodeLeafLinks.is_knit.Goals as goal
use Rattle.art_links.proofs.leaf_links.LeafNodeLeafLinks.is_knit.Goals.{then-holds, else-holds}

pub returns-then-previous_is_knit : goal.returns-then-previous_is_knit
returns-then-previous_is_knit g c = elim c.if-holds.branch [
  | then-holds w ↦
      (λ named. record { held = c.holds.ensures.0 w.if-holds.true; previous = w.previous_is_knit.ensures.0 (sym w.value-is ∙ c.if-previous_is_knit.true); next = c.next_is_knit.ensures.0 named }, λ knit. c.next_is_knit.ensures.1 knit.next)
  | else-holds w ↦ absurd (let e : false ≡ true = sym w.if-holds.false ∙ sym w.value-is ∙ c.if-previous_is_knit.true in cc)
]

use Rattle.std.proofs.Common.{◌≡◌, sym, ◌∙◌}
use Rattle.std.specs.declared.cmp.Ordering.TheVariants.{Less}
use Rattle.std.specs.Vec.{vec_items}
use Rattle.art_mapped.proofs.OrderLemmas.{by_comparison, list_by_first, array_by_first}
use Rattle.art_mapped.proofs.orders.sequences_compare_by_elements.Goals as goal

pub returns-clause-element : goal.returns-clause-element
returns-clause-element g c = by_comparison g.E.Ord.cmp g.met.E.Ord.total g.met.E.Element.keeps.exact

pub returns-clause-array : goal.returns-clause-array
returns-clause-array g c = λ xs ys x_in y_in.
    array_by_first (λ x y. g.E.Ord.cmp x y ≡ Less) g.E.Ord.cmp (by_comparison g.E.Ord.cmp g.met.E.Ord.total g.met.E.Element.keeps.exact) xs ys (x_in.0 ∙ sym y_in.0)

pub returns-clause-vector : goal.returns-clause-vector
returns-clause-vector g c = λ xs ys.
    list_by_first (λ x y. g.E.Ord.cmp x y ≡ Less) g.E.Ord.cmp (by_comparison g.E.Ord.cmp g.met.E.Ord.total g.met.E.Element.keeps.exact) (vec_items xs) (vec_items ys)

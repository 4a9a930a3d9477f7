use Rattle.std.specs.Vec.{vec_items}
use Rattle.art_node_tests.proofs.mapped.value_orders.by_first_step.Goals as goal

pub returns : goal.returns
returns c = λ xs ys x_is y_is. rw (c.cmp.ensures.values xs ys x_is y_is) (c.lists_of_numbers_compare_by_numbers.ensures.signed (vec_items xs) (vec_items ys))

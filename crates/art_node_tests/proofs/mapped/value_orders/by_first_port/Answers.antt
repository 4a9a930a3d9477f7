use Rattle.std.proofs.Common.{sym, ◌∙◌}
use Rattle.art_node_tests.proofs.mapped.value_orders.by_first_port.Goals as goal

pub returns : goal.returns
returns c = λ xs ys x_is y_is. rw (c.cmp.ensures.values xs ys x_is y_is) (c.lists_of_numbers_compare_by_numbers.ensures.unsigned_of_one_length xs ys (x_is.0.0 ∙ sym y_is.0.0))

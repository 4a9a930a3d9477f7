use Rattle.art_node_tests.proofs.mapped.value_orders.by_first_of_six.Goals as goal

pub returns : goal.returns
returns g c = λ x y x_is y_is. rw (c.cmp.ensures.values x y x_is y_is) (c.tuples_compare_by_parts.ensures x y)

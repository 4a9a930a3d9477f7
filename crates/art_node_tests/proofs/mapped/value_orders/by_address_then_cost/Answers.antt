use Rattle.art_node_tests.proofs.mapped.value_orders.by_address_then_cost.Goals as goal

pub returns : goal.returns
returns c = λ x y x_is y_is. rw (c.cmp.ensures.values x y x_is y_is) (c.tuples_compare_by_parts.ensures x y)

use Rattle.art_node_tests.proofs.mapped.value_orders.by_signed_size.Goals as goal

pub returns : goal.returns
returns c = λ x y x_is y_is. rw (c.cmp.ensures.values x y x_is y_is) (c.numbers_compare_by_size.ensures.signed x y)

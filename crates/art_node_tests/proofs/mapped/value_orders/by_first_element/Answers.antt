use Rattle.art_node_tests.proofs.mapped.value_orders.by_first_element.Goals as goal

pub returns : goal.returns
returns g c = λ xs ys x_is y_is. rw (c.cmp.ensures.values xs ys x_is y_is) (c.sequences_compare_by_elements.ensures.array xs ys x_is.0 y_is.0)

use Rattle.art_node_tests.proofs.mapped.value_orders.by_ipv6_octet.Goals as goal

pub returns : goal.returns
returns c = λ x y x_is y_is. rw (c.cmp.ensures.values x y x_is y_is) (c.addresses_compare_by_octets.ensures.ipv6 x y x_is.0 y_is.0)

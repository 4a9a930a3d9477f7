use Rattle.std.specs.Int.NonZero.{non_zero_i8_get}
use Rattle.art_node_tests.proofs.mapped.value_orders.by_signed_count.Goals as goal

pub returns : goal.returns
returns c = λ x y x_is y_is. rw (c.cmp.ensures.values x y x_is y_is) (c.numbers_compare_by_size.ensures.signed (non_zero_i8_get x) (non_zero_i8_get y))

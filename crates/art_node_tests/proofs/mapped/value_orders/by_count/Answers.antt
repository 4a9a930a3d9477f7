use Rattle.std.specs.Int.NonZero.{non_zero_u64_get}
use Rattle.art_node_tests.proofs.mapped.value_orders.by_count.Goals as goal

pub returns : goal.returns
returns c = λ x y x_is y_is. rw (c.cmp.ensures.values x y x_is y_is) (c.numbers_compare_by_size.ensures.unsigned (non_zero_u64_get x) (non_zero_u64_get y))

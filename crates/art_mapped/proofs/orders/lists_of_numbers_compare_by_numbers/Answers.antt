use Rattle.std.proofs.Common.{◌<◌}
use Rattle.std.specs.Prelude.{◌<ℤ◌}
use Rattle.std.specs.Ordering.{nat_cmp, int_cmp}
use Rattle.art_mapped.proofs.OrderLemmas.{nat_by_size, int_by_size, list_by_first, array_by_first}
use Rattle.art_mapped.proofs.orders.lists_of_numbers_compare_by_numbers.Goals as goal

pub returns-clause-unsigned : goal.returns-clause-unsigned
returns-clause-unsigned c = list_by_first (λ x y. x < y) nat_cmp nat_by_size

pub returns-clause-unsigned_of_one_length : goal.returns-clause-unsigned_of_one_length
returns-clause-unsigned_of_one_length c = array_by_first (λ x y. x < y) nat_cmp nat_by_size

pub returns-clause-signed : goal.returns-clause-signed
returns-clause-signed c = list_by_first (λ x y. x <ℤ y) int_cmp int_by_size

pub returns-clause-signed_of_one_length : goal.returns-clause-signed_of_one_length
returns-clause-signed_of_one_length c = array_by_first (λ x y. x <ℤ y) int_cmp int_by_size

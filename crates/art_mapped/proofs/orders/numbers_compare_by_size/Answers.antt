use Rattle.art_mapped.proofs.OrderLemmas.{nat_by_size, int_by_size}
use Rattle.art_mapped.proofs.orders.numbers_compare_by_size.Goals as goal

pub returns-clause-unsigned : goal.returns-clause-unsigned
returns-clause-unsigned c = nat_by_size

pub returns-clause-signed : goal.returns-clause-signed
returns-clause-signed c = int_by_size

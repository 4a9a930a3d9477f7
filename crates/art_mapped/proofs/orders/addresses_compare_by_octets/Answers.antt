use Rattle.std.proofs.Common.{◌<◌, sym, ◌∙◌}
use Rattle.std.specs.Ordering.{nat_cmp}
use Rattle.std.specs.Net.Addr.{ipv4_octets, ipv6_octets}
use Rattle.art_mapped.specs.AddressLaws.{ipv6_keep}
use Rattle.art_mapped.proofs.OrderLemmas.{nat_by_size, array_by_first}
use Rattle.art_mapped.proofs.orders.addresses_compare_by_octets.Goals as goal

pub returns-clause-ipv4 : goal.returns-clause-ipv4
returns-clause-ipv4 c = λ x y x_in y_in. array_by_first (λ a b. a < b) nat_cmp nat_by_size (ipv4_octets x) (ipv4_octets y) (x_in.0 ∙ sym y_in.0)

pub returns-clause-ipv6 : goal.returns-clause-ipv6
returns-clause-ipv6 c = λ x y x_in y_in.
    rw (ipv6_keep.keeps x y x_in y_in) (array_by_first (λ a b. a < b) nat_cmp nat_by_size (ipv6_octets x) (ipv6_octets y) (x_in.0 ∙ sym y_in.0))

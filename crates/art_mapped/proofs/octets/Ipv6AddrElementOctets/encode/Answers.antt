use Rattle.std.proofs.Common.{rules}
use Rattle.std.proofs.lemmas.List.Elements.{All-from_get_or}
use Rattle.art_bytes.specs.Text.{IsByte}
use Rattle.art_mapped.specs.Addresses.{AreOctets}
use Rattle.art_mapped.proofs.octets.Ipv6AddrElementOctets.encode.Goals as goal

pub returns-clause-in_range : goal.returns-clause-in_range
returns-clause-in_range c =
    let are : AreOctets 16 c.octets.result = (search rules, All-from_get_or IsByte c.octets.result 0 (λ i below. search rules)) in
    rw c.octets.ensures at are

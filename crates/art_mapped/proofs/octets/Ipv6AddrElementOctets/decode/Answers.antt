use Rattle.std.proofs.Common.{rules, ap, ◌∙◌, sym}
use Rattle.std.specs.Net.Addr.{octets_of}
use Rattle.std.proofs.lemmas.List.Elements.{All-from_get_or}
use Rattle.art_bytes.specs.Text.{IsByte}
use Rattle.art_mapped.specs.Addresses.{AreOctets}
use Rattle.art_mapped.proofs.ReadBack.{octets_of-segments_of}
use Rattle.art_mapped.proofs.octets.Ipv6AddrElementOctets.decode.Goals as goal

pub returns-clause-some : goal.returns-clause-some
returns-clause-some c =
    let are : AreOctets 16 c.args.bytes = (search rules, All-from_get_or IsByte c.args.bytes 0 (λ i below. search rules)) in
    let text = sym (ap octets_of c.from_octets.ensures ∙ octets_of-segments_of 8 c.args.bytes are.0 are.1) in
    (rw text at are, text)

use Rattle.art_mapped.proofs.Values.{unsigned_value, signed_value, ipv4_value, ipv6_value}
use Rattle.art_mapped.proofs.laws.any_bytes_are_a_value.Goals as goal

pub returns-clause-unsigned : goal.returns-clause-unsigned
returns-clause-unsigned c = λ width bytes is. ∣ unsigned_value width bytes is ∣₁

pub returns-clause-signed : goal.returns-clause-signed
returns-clause-signed c = λ width bytes some is. ∣ signed_value width bytes some is ∣₁

pub returns-clause-ipv4 : goal.returns-clause-ipv4
returns-clause-ipv4 c = λ bytes is. ∣ ipv4_value bytes is ∣₁

pub returns-clause-ipv6 : goal.returns-clause-ipv6
returns-clause-ipv6 c = λ bytes is. ∣ ipv6_value bytes is ∣₁

-- The times of readings and queries have 64 bits.
use Rattle.std.proofs.Common.{inl, inr, ℕ, ◌-◌, ◌^◌, pos, ℤ, neg_ℤ, List, FitsSigned, rules, w64}
use Rattle.std.specs.declared.net.Ipv6Addr.{Ipv6Addr}
use Rattle.index.specs.Keys.{HasTime, HasTimes}
use Rattle.index.specs.Queries.{SayHost, SayIndexQuery}
use Rattle.index.specs.Readings.{SayReading}
use Rattle.index.specs.declared.query.Query.{Query}
use Rattle.index.specs.declared.query.Query.TheVariants.{Host, Time, Hosts, First, Last, Count, CountHost}
use Rattle.index.specs.declared.reading.Reading.{Reading}

least_fits : FitsSigned w64 (neg_ℤ (pos (2 ^ 63)))
least_fits = search rules

greatest_fits : FitsSigned w64 (pos (2 ^ 63 - 1))
greatest_fits = search rules

-- the times of a line
pub time_fits : (line : List ℕ) (reading : Reading) → SayReading line reading → HasTime reading
time_fits line reading said = said.1.7.2

host_fits : (text : List ℕ) (address : Ipv6Addr) (from to : ℤ) → SayHost text address from to → FitsSigned w64 from × FitsSigned w64 to
host_fits text address from to (inl alone) = (rw alone.2 (least_fits), rw alone.3 (greatest_fits))
host_fits text address from to (inr bounded) = (bounded.5.3.2, bounded.5.4.2)

pub query_fits : (line : List ℕ) (query : Query) → SayIndexQuery line query → HasTimes query
query_fits line (Host address from to) said = host_fits said.1.0 address from to said.1.2
query_fits line (Time from to) said = (said.1.2.3.2, said.1.2.4.2)
query_fits line Hosts said = tt
query_fits line First said = tt
query_fits line Last said = tt
query_fits line Count said = tt
query_fits line (CountHost address from to) said = host_fits said.1.0 address from to said.1.2

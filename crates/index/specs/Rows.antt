-- The rows of a table in order, and their hosts.
use Rattle.std.specs.Prelude.{◌≡◌, ◌↔◌, List, AllPairs, Contains, Some, map, slice_get}
use Rattle.std.specs.Net.Addr.{ipv6_segments}
use Rattle.std.specs.Ordering.{nat_cmp, int_cmp, ordering_then}
use Rattle.std.specs.Cmp.Lexicographic.{slice_cmp}
use Rattle.std.specs.declared.cmp.Ordering.{Ordering}
use Rattle.std.specs.declared.cmp.Ordering.TheVariants.{Less}
use Rattle.std.specs.declared.net.Ipv6Addr.{Ipv6Addr}
use Rattle.index.specs.declared.reading.Reading.{Reading}
use Rattle.index.specs.declared.rows.Row.{Row}

-- addresses by their segments
abbrev pub address_order : Ipv6Addr → Ipv6Addr → Ordering
address_order a b = slice_cmp nat_cmp (ipv6_segments a) (ipv6_segments b)

-- rows by address, then by time, then by place
abbrev pub row_order : Row → Row → Ordering
row_order a b = ordering_then (ordering_then (address_order a.reading.address b.reading.address) (int_cmp a.reading.time b.reading.time)) (nat_cmp a.place b.place)

-- rows are those of the table, each once, in ascending order
pub record IsIndex (table : List Reading) (rows : List Row) : Type 0 where
  pub ascending : AllPairs (λ a b. row_order a b ≡ Less) rows
  pub same_rows : (row : Row) → Contains rows row ↔ (slice_get table row.place ≡ Some row.reading)

-- the address of each row
abbrev pub addresses_of : List Row → List Ipv6Addr
addresses_of rows = map (λ row. row.reading.address) rows

-- hosts are the addresses that have a row, each once, in ascending order
pub record AreHosts (rows : List Row) (hosts : List Ipv6Addr) : Type 0 where
  pub ascending : AllPairs (λ a b. address_order a b ≡ Less) hosts
  pub same_hosts : (host : Ipv6Addr) → Contains hosts host ↔ Contains (addresses_of rows) host

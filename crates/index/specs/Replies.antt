-- The output for a table and queries, and which lines are bad.
use Rattle.std.specs.Prelude.{◌≡◌, ℕ, ◌-◌, ℤ, Bool, ◌&&◌, List, [], ◌∷◌, Option, None, Some, bytes_eq, codes, filter, length, slice_get, take, if◌then◌else◌}
use Rattle.std.specs.Fmt.{decimal}
use Rattle.std.specs.List.{flat_map}
use Rattle.std.specs.Net.Addr.{ipv6_segments, low_octets}
use Rattle.std.specs.Net.Text.{ipv4_text, ipv6_text}
use Rattle.std.specs.Ordering.{int_cmp, is_eq, is_le, is_ge}
use Rattle.std.specs.declared.net.Ipv6Addr.{Ipv6Addr}
use Rattle.program_lines.specs.Lines.{line, SayAll}
use Rattle.program_lines.specs.Faults.{IsLineFault}
use Rattle.program_lines.specs.declared.line_fault.LineFault.{LineFault}
use Rattle.index.specs.declared.fault.Fault.{Fault}
use Rattle.index.specs.declared.query.Query.{Query}
use Rattle.index.specs.declared.query.Query.TheVariants.{Host, Time, Hosts, First, Last, Count, CountHost}
use Rattle.index.specs.declared.reading.Reading.{Reading}
use Rattle.index.specs.declared.rows.Row.{Row}
use Rattle.index.specs.Readings.{AreRowLines, SayReading}
use Rattle.index.specs.Queries.{IsAskFault, SayIndexQuery}
use Rattle.index.specs.Rows.{AreHosts, IsIndex, address_order}

-- whether a row is from the one time to the other
abbrev pub is_timed : ℤ → ℤ → Row → Bool
is_timed from to row = is_ge (int_cmp row.reading.time from) && is_le (int_cmp row.reading.time to)

-- whether a row is of this host, from the one time to the other
abbrev pub is_within : Ipv6Addr → ℤ → ℤ → Row → Bool
is_within address from to row = is_eq (address_order row.reading.address address) && is_timed from to row

-- the line of a row
abbrev pub row_line : Row → List ℕ
row_line row = line row.reading.line.now

-- the line of a row, or one with none
abbrev pub end_line : Option Row → List ℕ
end_line None = line (codes "none")
end_line (Some row) = row_line row

-- the text of an address: a.b.c.d of ::ffff:a.b.c.d, and else that of RFC 5952
abbrev pub host_text : Ipv6Addr → List ℕ
host_text address =
    if bytes_eq (take 6 (ipv6_segments address)) (0 ∷ 0 ∷ 0 ∷ 0 ∷ 0 ∷ 0xffff ∷ []) then ipv4_text (low_octets address)
    else ipv6_text (ipv6_segments address)

-- the line of a host
abbrev pub host_line : Ipv6Addr → List ℕ
host_line address = line (host_text address)

-- a query prints this, where these are the rows in order
abbrev pub IsIndexReply : List Row → Query → List ℕ → Type 0
IsIndexReply rows (Host address from to) text = text ≡ flat_map row_line (filter (is_within address from to) rows)
IsIndexReply rows (Time from to) text = text ≡ flat_map row_line (filter (is_timed from to) rows)
IsIndexReply rows Hosts text = (hosts : List Ipv6Addr) × AreHosts rows hosts × (text ≡ flat_map host_line hosts)
IsIndexReply rows First text = text ≡ end_line (slice_get rows 0)
IsIndexReply rows Last text = text ≡ end_line (slice_get rows (length rows - 1))
IsIndexReply rows Count text = text ≡ line (decimal (length rows))
IsIndexReply rows (CountHost address from to) text = text ≡ line (decimal (length (filter (is_within address from to) rows)))

-- each row of the file is a reading
abbrev pub AreReadings : Bool → List ℕ → List Reading → Type 0
AreReadings has_header file table = (lines : List (List ℕ)) × AreRowLines has_header file lines × SayAll SayReading lines table

-- a line of the input is a query, and this is the reply
abbrev pub HasIndexReply : Bool → List ℕ → List ℕ → List ℕ → Type 0
HasIndexReply has_header file line text =
    (table : List Reading) × (rows : List Row) × (query : Query) × AreReadings has_header file table × IsIndex table rows
    × SayIndexQuery line query × IsIndexReply rows query text

-- a line of the input is no query, and this is its fault
abbrev pub HasIndexFault : List ℕ → LineFault Fault → Type 0
HasIndexFault line fault = ((query : Query) → ¬ SayIndexQuery line query) × IsLineFault IsAskFault line fault

-- The keys of rows, and times. No public clause cites this.
use Rattle.std.specs.Prelude.{◌≡◌, ℕ, ◌<◌, ◌^◌, ℤ, Bool, List, All, FitsSigned, map}
use Rattle.std.specs.Int.{w64}
use Rattle.std.specs.declared.net.Ipv6Addr.{Ipv6Addr}
use Rattle.index.specs.declared.query.Query.{Query}
use Rattle.index.specs.declared.query.Query.TheVariants.{Host, Time, Hosts, First, Last, Count, CountHost}
use Rattle.index.specs.declared.reading.Reading.{Reading}
use Rattle.index.specs.declared.rows.Row.{Row}
use Rattle.index.specs.Replies.{AreReadings}
use Rattle.index.specs.Rows.{IsIndex}

-- a key: an address, and then a time and a place
abbrev pub RowKey : Type 0
RowKey = Ipv6Addr × (ℤ × ℕ)

-- the time of a reading has 64 bits
abbrev pub HasTime : Reading → Type 0
HasTime reading = FitsSigned w64 reading.time

-- the key of a row
abbrev pub key_of : Row → RowKey
key_of row = (row.reading.address, (row.reading.time, row.place))

-- the row is under its key
pub record IsKeyed (entry : RowKey × Row) : Type 0 where
  pub key : entry.0 ≡ key_of entry.1
  pub time_in : HasTime entry.1.reading
  pub place_in : entry.1.place < 2 ^ 64

-- each row is
abbrev pub AreKeyed : List (RowKey × Row) → Type 0
AreKeyed entries = All IsKeyed entries

-- the times of a query have 64 bits
abbrev pub HasTimes : Query → Type 0
HasTimes (Host address from to) = FitsSigned w64 from × FitsSigned w64 to
HasTimes (Time from to) = FitsSigned w64 from × FitsSigned w64 to
HasTimes Hosts = Unit {0}
HasTimes First = Unit {0}
HasTimes Last = Unit {0}
HasTimes Count = Unit {0}
HasTimes (CountHost address from to) = FitsSigned w64 from × FitsSigned w64 to

-- the entries are the rows of this table, each under its key
abbrev pub IsIndexTable : Bool → List ℕ → List (RowKey × Row) → Type 0
IsIndexTable has_header file entries =
    (table : List Reading) × AreReadings has_header file table × IsIndex table (map (λ entry. entry.1) entries) × AreKeyed entries

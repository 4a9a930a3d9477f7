-- The hosts one after another, and what is appended for a query. No public clause cites this.
use Rattle.std.specs.Prelude.{◌≡◌, ℕ, Bool, true, List, ◌++◌, Option, None, Some, Contains}
use Rattle.std.specs.Ordering.{is_le, is_lt}
use Rattle.std.specs.declared.net.Ipv6Addr.{Ipv6Addr}
use Rattle.index.specs.declared.query.Query.{Query}
use Rattle.index.specs.declared.rows.Row.{Row}
use Rattle.index.specs.Replies.{IsIndexReply}
use Rattle.index.specs.Rows.{address_order, addresses_of}

-- whether an address is above the last one, if there is a last one
abbrev pub is_after : Option Ipv6Addr → Ipv6Addr → Bool
is_after None address = true
is_after (Some last) address = is_lt (address_order last address)

-- the least of the addresses of these rows after the last one, or none where no other one is
abbrev pub IsNextHost : List Row → Option Ipv6Addr → Option Ipv6Addr → Type 0
IsNextHost rows last None = (address : Ipv6Addr) → Contains (addresses_of rows) address → is_after last address ≡ true → ⊥
IsNextHost rows last (Some next) =
    Contains (addresses_of rows) next × (is_after last next ≡ true)
    × ((address : Ipv6Addr) → Contains (addresses_of rows) address → is_after last address ≡ true → is_le (address_order next address) ≡ true)

-- what a query prints was appended to an output
abbrev pub AppendsIndexReply : List Row → Query → List ℕ → List ℕ → Type 0
AppendsIndexReply rows query old new = (text : List ℕ) × IsIndexReply rows query text × (new ≡ old ++ text)

-- What the lines of the input say.
use Rattle.std.specs.Prelude.{◌≡◌, ◌≢◌, ◌⊎◌, ℕ, ◌-◌, ◌^◌, ℤ, pos, neg_ℤ, List, ◌∷◌, ◌++◌, codes}
use Rattle.std.specs.declared.net.Ipv6Addr.{Ipv6Addr}
use Rattle.program_lines.specs.Lines.{HasNo, IsCutAt, SayLine}
use Rattle.index.specs.declared.fault.Fault.{Fault}
use Rattle.index.specs.declared.fault.Fault.TheVariants.{BadAddress, BadTime, UnknownQuery}
use Rattle.index.specs.declared.query.Query.{Query}
use Rattle.index.specs.declared.query.Query.TheVariants.{Host, Time, Hosts, First, Last, Count, CountHost}
use Rattle.index.specs.Fields.{IsAddress, IsTime}

-- the text is `from WORD to WORD`
abbrev pub HasBounds : List ℕ → List ℕ → List ℕ → Type 0
HasBounds text first last = (text ≡ codes "from " ++ (first ++ (codes " to " ++ last))) × HasNo 32 first

-- the text is `from TIME to TIME`, with these times
abbrev pub AreBounds : List ℕ → ℤ → ℤ → Type 0
AreBounds text from to = (first last : List ℕ) × HasBounds text first last × IsTime first from × IsTime last to

-- the text is `ADDRESS`, which stands for the least time to the greatest, or `ADDRESS from TIME to TIME`
abbrev pub SayHost : List ℕ → Ipv6Addr → ℤ → ℤ → Type 0
SayHost text address from to =
    (HasNo 32 text × IsAddress text address × (from ≡ neg_ℤ (pos (2 ^ 63))) × (to ≡ pos (2 ^ 63 - 1)))
    ⊎ ((host bounds : List ℕ) × (text ≡ host ++ 32 ∷ bounds) × HasNo 32 host × IsAddress host address × AreBounds bounds from to)

-- the line asks for this: `host` or `count` with an address, and with or without `from TIME to TIME`; `time` with these;
-- `hosts`, `first`, `last` or `count`
abbrev pub AskIndexFor : List ℕ → Query → Type 0
AskIndexFor line (Host address from to) = (text : List ℕ) × (line ≡ codes "host " ++ text) × SayHost text address from to
AskIndexFor line (Time from to) = (text : List ℕ) × (line ≡ codes "time " ++ text) × AreBounds text from to
AskIndexFor line Hosts = line ≡ codes "hosts"
AskIndexFor line First = line ≡ codes "first"
AskIndexFor line Last = line ≡ codes "last"
AskIndexFor line Count = line ≡ codes "count"
AskIndexFor line (CountHost address from to) = (text : List ℕ) × (line ≡ codes "count " ++ text) × SayHost text address from to

-- a line of the input is a query: it asks for something, and has no carriage return at its end
abbrev pub SayIndexQuery : List ℕ → Query → Type 0
SayIndexQuery = SayLine AskIndexFor

-- the text is no `from WORD to WORD`, or one of the words is no time
abbrev pub IsBoundsFault : List ℕ → Fault → Type 0
IsBoundsFault text UnknownQuery = (first last : List ℕ) → ¬ HasBounds text first last
IsBoundsFault text BadTime =
    (first last : List ℕ) × HasBounds text first last × (((time : ℤ) → ¬ IsTime first time) ⊎ ((time : ℤ) → ¬ IsTime last time))
IsBoundsFault text _ = ⊥

-- no address
abbrev pub IsAddressFault : List ℕ → Fault → Type 0
IsAddressFault text fault = (fault ≡ BadAddress) × ((address : Ipv6Addr) → ¬ IsAddress text address)

-- the text, or its first word, is no address, or what follows that word are no bounds
abbrev pub IsHostFault : List ℕ → Fault → Type 0
IsHostFault text fault =
    (HasNo 32 text × IsAddressFault text fault)
    ⊎ ((host bounds : List ℕ) × IsCutAt 32 text host bounds × (IsAddressFault host fault ⊎ IsBoundsFault bounds fault))

-- the line is no query of one word, and does not begin as the others do
abbrev pub HasNoWord : List ℕ → Type 0
HasNoWord line =
    ((text : List ℕ) → line ≢ codes "host " ++ text) × ((text : List ℕ) → line ≢ codes "time " ++ text) × ((text : List ℕ) → line ≢ codes "count " ++ text)
    × (line ≢ codes "hosts") × (line ≢ codes "first") × (line ≢ codes "last") × (line ≢ codes "count")

-- what is wrong with a line that asks for nothing
abbrev pub IsAskFault : List ℕ → Fault → Type 0
IsAskFault line fault =
    ((fault ≡ UnknownQuery) × HasNoWord line) ⊎ (((text : List ℕ) × (line ≡ codes "host " ++ text) × IsHostFault text fault)
    ⊎ (((text : List ℕ) × (line ≡ codes "time " ++ text) × IsBoundsFault text fault) ⊎ ((text : List ℕ) × (line ≡ codes "count " ++ text) × IsHostFault text fault)))

-- What the lines of the table say.
use Rattle.std.specs.Prelude.{◌≡◌, ◌⊎◌, ℕ, ℤ, ◌+◌, Bool, true, false, List, ◌∷◌, ◌++◌, codes}
use Rattle.std.specs.declared.net.Ipv6Addr.{Ipv6Addr}
use Rattle.program_lines.specs.Lines.{EndsInReturn, HasNo, IsCutAt, IsFirstBad, SayLine, line_at, lines_of}
use Rattle.program_lines.specs.Faults.{IsLineFault}
use Rattle.program_lines.specs.declared.failure.BadLine.{BadLine}
use Rattle.program_lines.specs.declared.failure.Source.TheVariants.{File}
use Rattle.program_lines.specs.declared.line_fault.LineFault.{LineFault}
use Rattle.program_lines.specs.declared.line_fault.LineFault.TheVariants.{CarriageReturn, Other}
use Rattle.index.specs.declared.fault.Fault.{Fault}
use Rattle.index.specs.declared.fault.Fault.TheVariants.{NoHeader, MissingField, BadAddress, BadTime}
use Rattle.index.specs.declared.reading.Reading.{Reading}
use Rattle.index.specs.Fields.{IsAddress, IsTime}

-- the line is an address, a comma, a time, a comma and a value of any bytes
abbrev pub HasFields : List ℕ → Reading → Type 0
HasFields line reading =
    (address time value : List ℕ) × (line ≡ address ++ 44 ∷ (time ++ 44 ∷ value)) × HasNo 44 address × HasNo 44 time
    × IsAddress address reading.address × IsTime time reading.time × (reading.line.now ≡ line)

-- a line of the table is a reading: it has these fields, and no carriage return at its end
abbrev pub SayReading : List ℕ → Reading → Type 0
SayReading = SayLine HasFields

-- the line is no reading: it has fewer than two commas, what comes before the first is no address, or what
-- comes before the second no time
abbrev pub IsFieldFault : List ℕ → Fault → Type 0
IsFieldFault line MissingField = HasNo 44 line ⊎ ((first rest : List ℕ) × IsCutAt 44 line first rest × HasNo 44 rest)
IsFieldFault line BadAddress = (first rest : List ℕ) × IsCutAt 44 line first rest × ((address : Ipv6Addr) → ¬ IsAddress first address)
IsFieldFault line BadTime =
    (first rest second value : List ℕ) × IsCutAt 44 line first rest × IsCutAt 44 rest second value × ((time : ℤ) → ¬ IsTime second time)
IsFieldFault line _ = ⊥

-- the first line of a table
abbrev pub header_line : List ℕ
header_line = codes "address,time,value"

-- these are the lines of the rows: those after the header, or all of them where there is to be none
abbrev pub AreRowLines : Bool → List ℕ → List (List ℕ) → Type 0
AreRowLines true file rows = lines_of file ≡ header_line ∷ rows
AreRowLines false file rows = lines_of file ≡ rows

-- how many lines come before the rows
abbrev pub lines_before : Bool → ℕ
lines_before true = 1
lines_before false = 0

-- what is wrong with the first line, where it is to be the header
abbrev pub IsHeaderFault : List ℕ → LineFault Fault → Type 0
IsHeaderFault file CarriageReturn = EndsInReturn (line_at (lines_of file) 1)
IsHeaderFault file (Other NoHeader) = (¬ EndsInReturn (line_at (lines_of file) 1)) × ((rows : List (List ℕ)) → ¬ AreRowLines true file rows)
IsHeaderFault file _ = ⊥

-- this is the first of the rows that is no reading, by its number in a file where so many lines come before
abbrev pub IsFirstBadRow : ℕ → List (List ℕ) → BadLine (LineFault Fault) → Type 0
IsFirstBadRow before rows bad =
    (number : ℕ) × (bad.number ≡ number + before) × IsFirstBad SayReading rows number × IsLineFault IsFieldFault (line_at rows number) bad.fault

-- the header is missing, or this is the first row that is no reading
abbrev pub IsBadRow : Bool → List ℕ → BadLine (LineFault Fault) → Type 0
IsBadRow has_header file bad =
    (bad.source ≡ File)
    × (((has_header ≡ true) × (bad.number ≡ 1) × IsHeaderFault file bad.fault)
    ⊎ ((rows : List (List ℕ)) × AreRowLines has_header file rows × IsFirstBadRow (lines_before has_header) rows bad))

-- What lines of the table say.
use Rattle.std.proofs.Common.{inr, refl, ◌≡◌, ◌∙◌, ℕ, ◌+◌, ◌≤◌, ◌==◌, ℤ, true, false, List, [], ◌∷◌, ◌++◌, length, sym, ap, subst, arith, length-append}
use Rattle.std.specs.List.{slice_split, count_by}
use Rattle.std.specs.declared.net.Ipv6Addr.{Ipv6Addr}
use Rattle.std.proofs.lemmas.List.Splits.{length-slice_split}
use Rattle.std.proofs.lemmas.List.Sums.{count_by-le-length}
use Rattle.std.specs.Prelude.{Result, Ok, Err, IfErr}
use Rattle.program_lines.specs.declared.failure.Failure.{Failure}
use Rattle.program_lines.specs.declared.failure.Failure.TheVariants.{BadLine as AtLine, OutOfMemory, Device}
use Rattle.program_lines.specs.declared.failure.Source.TheVariants.{File}
use Rattle.program_lines.specs.Failures.{IfBadLine, IsLineFailure}
use Rattle.program_lines.specs.Faults.{IsLineFault}
use Rattle.program_lines.specs.declared.line_fault.LineFault.{LineFault}
use Rattle.index.specs.declared.fault.Fault.{Fault}
use Rattle.program_lines.specs.Lines.{HasNo, IsCutAt, IsFirstBad, line_at, lines_of, without_empty_last}
use Rattle.program_lines.proofs.Cuts.{same_cut, cut_has_one}
use Rattle.index.specs.declared.reading.Reading.{Reading}
use Rattle.index.specs.Fields.{IsAddress, IsTime}
use Rattle.index.specs.Readings.{AreRowLines, HasFields, IsBadRow, IsFieldFault, IsFirstBadRow, SayReading}

pub no_comma : (line : List ℕ) → HasNo 44 line → (reading : Reading) → HasFields line reading → ⊥
no_comma line none reading (address, time, value, is, no_first, no_other, is_address, is_time, kept) = cut_has_one 44 address (time ++ 44 ∷ value) (subst (HasNo 44) is none)

module _ (line host rest : List ℕ) (cut : IsCutAt 44 line host rest) where
  parts_are : (address time value : List ℕ) → line ≡ address ++ 44 ∷ (time ++ 44 ∷ value) → HasNo 44 address → (host ≡ address) × (rest ≡ time ++ 44 ∷ value)
  parts_are address time value is none = same_cut 44 host address rest (time ++ 44 ∷ value) cut.1 none (sym cut.0 ∙ is)

  pub no_second : HasNo 44 rest → (reading : Reading) → HasFields line reading → ⊥
  no_second none reading (address, time, value, is, no_one, no_other, is_address, is_time, kept) = cut_has_one 44 time value (subst (HasNo 44) (parts_are address time value is no_one).1 none)

  module _ (seconds after : List ℕ) (next : IsCutAt 44 rest seconds after) where
    pub no_fields : ((address : Ipv6Addr) (time : ℤ) → IsAddress host address → IsTime seconds time → ⊥) → (reading : Reading) → HasFields line reading → ⊥
    no_fields refused reading (address, time, value, is, no_first, no_other, is_address, is_time, kept) =
        let first = parts_are address time value is no_first in
        let second = same_cut 44 seconds time after value next.1 no_other (sym next.0 ∙ first.1) in
        refused reading.address reading.time (subst (λ t. IsAddress t reading.address) (sym first.0) is_address) (subst (λ t. IsTime t reading.time) (sym second.0) is_time)

no_longer : (parts : List (List ℕ)) → length (without_empty_last parts) ≤ length parts
no_longer [] = omega arith
no_longer ([] ∷ []) = omega arith
no_longer ((b ∷ part) ∷ []) = omega arith
no_longer ([] ∷ next ∷ parts) = omega (arith, no_longer (next ∷ parts))
no_longer ((b ∷ part) ∷ next ∷ parts) = omega (arith, no_longer (next ∷ parts))

-- no more lines than bytes and one
many_lines : (bytes : List ℕ) → length (lines_of bytes) ≤ length bytes + 1
many_lines bytes =
    let parts : length (slice_split (λ b. b == 10) bytes) ≡ count_by (λ b. b == 10) bytes + 1 = length-slice_split (λ b. b == 10) bytes in
    let less : count_by (λ b. b == 10) bytes ≤ length bytes = count_by-le-length (λ b. b == 10) bytes in
    omega (arith, no_longer (slice_split (λ b. b == 10) bytes), parts, less)

-- a first bad line is one of them
pub number_below : {C : Type 0} (Say : List ℕ → C → Type 0) (bytes : List ℕ) (number : ℕ) → IsFirstBad Say (lines_of bytes) number → number ≤ length bytes + 1
number_below Say bytes number (before, after, bad, items, is, counted, said, none) =
    let size : length (lines_of bytes) ≡ length (before ++ bad ∷ after) = ap length is in
    omega (arith, size, length-append before (bad ∷ after), counted, many_lines bytes)

-- the first bad row is a bad line of the file
pub absent_bad : {X : Type 0} (file : List ℕ) (result : Result X (Failure (LineFault Fault))) → IfErr result (IfBadLine (λ bad. (bad.source ≡ File) × IsFirstBad SayReading (lines_of file) bad.number)) → IfErr result (IsLineFailure (λ bad. IsLineFault IsFieldFault (line_at (lines_of file) bad.number) bad.fault)) → IfErr result (IfBadLine (IsBadRow false file))
absent_bad file (Ok x) first fault = tt
absent_bad file (Err (AtLine bad)) first fault = let same : bad.number ≡ bad.number + 0 = omega arith in (first.0, inr (lines_of file, refl, (bad.number, same, first.1, fault)))
absent_bad file (Err OutOfMemory) first fault = tt
absent_bad file (Err Device) first fault = tt

pub given_bad : {X : Type 0} (file rows : List ℕ) (result : Result X (Failure (LineFault Fault))) → AreRowLines true file (lines_of rows) → IfErr result (IfBadLine (λ bad. (bad.source ≡ File) × IsFirstBadRow 1 (lines_of rows) bad)) → IfErr result (IfBadLine (IsBadRow true file))
given_bad file rows (Ok x) are first = tt
given_bad file rows (Err (AtLine bad)) are first = (first.0, inr (lines_of rows, are, first.1))
given_bad file rows (Err OutOfMemory) are first = tt
given_bad file rows (Err Device) are first = tt

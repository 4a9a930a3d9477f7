-- Failures: the exit status and the text of each.
use Rattle.std.specs.Prelude.{ℕ, List, [], ◌++◌, Option, Some, option_map, codes}
use Rattle.std.specs.Fmt.{decimal}
use Rattle.program_lines.specs.declared.failure.Source.{Source}
use Rattle.program_lines.specs.declared.failure.Source.TheVariants.{File, OnlyInput}
use Rattle.program_lines.specs.declared.failure.BadLine.{BadLine}
use Rattle.program_lines.specs.declared.failure.Failure.{Failure}
use Rattle.program_lines.specs.declared.failure.Failure.TheVariants.{BadLine as AtLine, OutOfMemory, Device}

-- the name of the source, where a failure's line names it
abbrev pub source_text : Source → List ℕ
source_text File = codes "file "
source_text OnlyInput = []

module _ {F : Type 0} where
  -- 2 where a line is at fault, 1 where memory or a device is
  abbrev pub status_of : Failure F → ℕ
  status_of (AtLine bad) = 2
  status_of OutOfMemory = 1
  status_of Device = 1

  -- this holds of the line, where the failure is one of a line
  abbrev pub IfBadLine : (BadLine F → Type 0) → Failure F → Type 0
  IfBadLine P (AtLine bad) = P bad
  IfBadLine P OutOfMemory = Unit {0}
  IfBadLine P Device = Unit {0}

  -- the failure is one of a line, of which this holds, or one of memory
  abbrev pub IsLineFailure : (BadLine F → Type 0) → Failure F → Type 0
  IsLineFailure P (AtLine bad) = P bad
  IsLineFailure P OutOfMemory = Unit {0}
  IsLineFailure P Device = ⊥

  -- why a run ends without its output, by the text of a line's fault
  abbrev pub failure_text : (F → List ℕ) → Failure F → List ℕ
  failure_text fault_text (AtLine bad) = source_text bad.source ++ codes "line " ++ decimal bad.number ++ codes ": " ++ fault_text bad.fault
  failure_text fault_text OutOfMemory = codes "out of memory"
  failure_text fault_text Device = codes "device failed"

  -- the same, where the fault's text may be unknown
  abbrev pub shown_failure : (F → Option (List ℕ)) → Failure F → Option (List ℕ)
  shown_failure shown (AtLine bad) = option_map (λ text. failure_text (λ fault. text) (AtLine bad)) (shown bad.fault)
  shown_failure shown failure = Some (failure_text (λ fault. []) failure)

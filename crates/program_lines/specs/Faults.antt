-- What may be wrong with a line.
use Rattle.std.specs.Prelude.{ℕ, List, Option, Some, codes}
use Rattle.program_lines.specs.Lines.{EndsInReturn}
use Rattle.program_lines.specs.declared.line_fault.LineFault.{LineFault}
use Rattle.program_lines.specs.declared.line_fault.LineFault.TheVariants.{CarriageReturn, Other}

module _ {F : Type 0} where
  -- the line has a carriage return at its end, or has none and this fault of the program's own
  abbrev pub IsLineFault : (List ℕ → F → Type 0) → List ℕ → LineFault F → Type 0
  IsLineFault HasFault line CarriageReturn = EndsInReturn line
  IsLineFault HasFault line (Other fault) = (¬ EndsInReturn line) × HasFault line fault

  -- the text of a fault, where that of the program's own may be unknown
  abbrev pub shown_fault : (F → Option (List ℕ)) → LineFault F → Option (List ℕ)
  shown_fault shown CarriageReturn = Some (codes "ends with a carriage return")
  shown_fault shown (Other fault) = shown fault

-- The texts of failures.
use Rattle.std.specs.Prelude.{ℕ, List, codes}
use Rattle.program_lines.specs.declared.failure.Failure.{Failure}
use Rattle.program_lines.specs.declared.failure.Failure.TheVariants.{BadLine}
use Rattle.program_lines.specs.declared.failure.Source.TheVariants.{OnlyInput}
use Rattle.art_cli.specs.declared.failure.LineFault.{LineFault}
use Rattle.art_cli.specs.declared.failure.LineFault.TheVariants.{UnknownCommand, WrongNumberOfWords, BadNumber, KeyTooLong, PrefixOfOther}

-- the text for words that the program does not take
abbrev pub usage_text : List ℕ
usage_text = codes "usage: artnodes replay | artnodes find 0|2|16"

-- the fault of a line
abbrev pub line_fault_text : LineFault → List ℕ
line_fault_text UnknownCommand = codes "unknown command"
line_fault_text WrongNumberOfWords = codes "wrong number of words"
line_fault_text BadNumber = codes "bad number"
line_fault_text KeyTooLong = codes "key too long"
line_fault_text PrefixOfOther = codes "one key is a front of the other"

-- the line of this number, from 1, has this fault
abbrev pub failure_at : ℕ → LineFault → Failure LineFault
failure_at number fault = BadLine (record { source = OnlyInput; number = number; fault = fault })

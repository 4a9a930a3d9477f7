-- Messages on lines at fault.
use Rattle.std.specs.Prelude.{◌≡◌, ◌≢◌, ◌/◌, ◌%◌, ℕ, List, [], ◌∷◌, ◌++◌, Option, IfSome, cond, codes, take}
use Rattle.std.specs.Char.{digit_char, is_ascii_control}
use Rattle.std.specs.Fmt.{decimal}
use Rattle.std.specs.List.{flat_map}
use Rattle.program_lines.specs.Faults.{shown_fault}
use Rattle.program_lines.specs.Lines.{line}
use Rattle.program_lines.specs.declared.line_fault.LineFault.{LineFault}

-- a byte as a message shows it: as it is, or as `\x1b` where it is a control byte
abbrev pub shown_byte : ℕ → List ℕ
shown_byte byte = cond (is_ascii_control byte) (codes "\\x" ++ digit_char (byte / 16) ∷ digit_char (byte % 16) ∷ []) (byte ∷ [])

-- the message on a line at fault: the program, where the line is read, its number, its fault, and its first 80 bytes, as shown
abbrev pub message : List ℕ → List ℕ → ℕ → List ℕ → List ℕ → List ℕ
message program source number fault text =
    line (program ++ codes ": " ++ source ++ codes ": line " ++ decimal number ++ codes ": " ++ fault ++ codes ": " ++ flat_map shown_byte (take 80 text))

-- the line of the input with this number is at fault, and this is the message, by the text of the fault, where that is known
abbrev pub IsMessage : {F : Type 0} → (F → Option (List ℕ)) → (List ℕ → LineFault F → Type 0) → List ℕ → ℕ → List ℕ → List ℕ → Type 0
IsMessage shown HasFault program number text told =
    (told ≢ []) × ((fault : LineFault _) × HasFault text fault
    × IfSome (shown_fault shown fault) (λ fault. told ≡ message program (codes "standard input") number fault text))

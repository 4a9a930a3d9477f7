-- What a run writes for the lines of its input.
use Rattle.std.specs.Prelude.{◌≡◌, ◌≢◌, ◌⊎◌, ℕ, suc, Bool, true, false, List, [], ◌∷◌, ◌++◌, Option, Some, IfSome}
use Rattle.std.specs.Io.KnownBytes.{Appends, Keeps}
use Rattle.program_lines.specs.Faults.{shown_fault}
use Rattle.program_lines.specs.Lines.{lines_of, line_at}
use Rattle.program_lines.specs.Messages.{message}
use Rattle.program_lines.specs.Programs.{AppendsBeginning}
use Rattle.program_lines.specs.declared.failure.BadLine.{BadLine}
use Rattle.program_lines.specs.declared.line_fault.LineFault.{LineFault}

-- these are all lines of a reader, where its bytes are known
abbrev pub GivesAll : Option (List ℕ) → List (List ℕ) → Type 0
GivesAll given lines = IfSome given (λ bytes. lines_of bytes ≡ lines)

-- these are its first lines
abbrev pub GivesFirst : Option (List ℕ) → List (List ℕ) → Type 0
GivesFirst given lines = IfSome given (λ bytes. (rest : List (List ℕ)) × (lines_of bytes ≡ lines ++ rest))

-- the messages are none, or are some
abbrev pub IsQuiet : Bool → List ℕ → Type 0
IsQuiet true told = told ≡ []
IsQuiet false told = told ≢ []

module _ (IsReply : List ℕ → List ℕ → Type 0) (IsMessage : ℕ → List ℕ → List ℕ → Type 0) where
  -- the line of this number has this reply and no message, or no reply and this message
  abbrev pub IsAnswer : ℕ → List ℕ → List ℕ → List ℕ → Type 0
  IsAnswer number line reply told = (IsReply line reply × (told ≡ [])) ⊎ ((reply ≡ []) × IsMessage number line told)

  -- the lines, of which the first has this number, have these replies and messages, one after another
  abbrev pub AreAnswers : ℕ → List (List ℕ) → List ℕ → List ℕ → Type 0
  AreAnswers number [] replies told = (replies ≡ []) × (told ≡ [])
  AreAnswers number (line ∷ lines) replies told =
      (reply text more others : List ℕ) × IsAnswer number line reply text × AreAnswers (suc number) lines more others
      × (replies ≡ reply ++ more) × (told ≡ text ++ others)

  module _ (IsHeading : List ℕ → Type 0) where
    -- a reader gives some lines and then no more; a heading and all replies are written, and the messages, which are none or some
    abbrev pub AnswersAll : Bool → Option (List ℕ) → Option (List ℕ) → Option (List ℕ) → Option (List ℕ) → Option (List ℕ) → Type 0
    AnswersAll quiet given old new old_errors new_errors =
        (lines : List (List ℕ)) × (heading replies told : List ℕ) × GivesAll given lines × IsHeading heading × AreAnswers 1 lines replies told
        × IsQuiet quiet told × Appends old new (heading ++ replies) × Appends old_errors new_errors told

    -- a reader gives some lines, and the first part of a heading and of the replies is written
    abbrev pub AnswersSome : Option (List ℕ) → Option (List ℕ) → Option (List ℕ) → Type 0
    AnswersSome given old new =
        (lines : List (List ℕ)) × (heading replies told : List ℕ) × GivesFirst given lines × IsHeading heading × AreAnswers 1 lines replies told
        × AppendsBeginning old new (heading ++ replies)

-- a line of the file is at fault, and the first part of its message is written, where the text of the fault is known,
-- and no output
abbrev pub TellsBadLine : {F : Type 0} → (F → Option (List ℕ)) → (BadLine (LineFault F) → Type 0) → List ℕ → List ℕ → List ℕ → Option (List ℕ) → Option (List ℕ) → Option (List ℕ) → Option (List ℕ) → Type 0
TellsBadLine shown IsBad program name file old new old_errors new_errors =
    Keeps old new × ((bad : BadLine (LineFault _)) × IsBad bad
    × IfSome (shown_fault shown bad.fault) (λ fault. AppendsBeginning old_errors new_errors (message program name bad.number fault (line_at (lines_of file) bad.number))))

-- No public clause cites what follows.

-- some bytes that waited are written, and the others wait
abbrev pub Moves : Option (List ℕ) → Option (List ℕ) → List ℕ → List ℕ → Type 0
Moves old new waited waits = (gone : List ℕ) × Appends old new gone × (waited ≡ gone ++ waits)

-- the next line is taken from what is left of the input
abbrev pub TakesLine : Option (List ℕ) → Option (List ℕ) → List ℕ → Type 0
TakesLine old new line = IfSome old (λ given. (rest : List ℕ) × (new ≡ Some rest) × (lines_of given ≡ line ∷ lines_of rest))

-- Failures of a run, and what it has written.
use Rattle.std.proofs.Common.{◌≡◌, ℕ, List, inl, inr, refl, sym}
use Rattle.std.specs.Prelude.{Option, None, Some, IfSome, String}
use Rattle.std.specs.Io.KnownBytes.{Keeps}
use Rattle.program_lines.specs.declared.failure.Failure.{Failure}
use Rattle.program_lines.specs.declared.failure.Failure.TheVariants.{BadLine, OutOfMemory, Device}
use Rattle.program_lines.specs.Failures.{status_of, IfBadLine, IsLineFailure, failure_text, shown_failure}
use Rattle.program_lines.specs.declared.failure.Source.TheVariants.{OnlyInput}
use Rattle.program_lines.specs.Lines.{lines_of, line_at, line, IsFirstBad}
use Rattle.program_lines.specs.Programs.{AppendsBeginning, PrintsBeginning}
use Rattle.art_cli.specs.declared.failure.LineFault.{LineFault}
use Rattle.art_cli.specs.declared.request.Request.{Request}
use Rattle.art_cli.specs.declared.request.Request.TheVariants.{Replay, Find0, Find2, Find16}
use Rattle.art_cli.specs.Command.{SayReplayLine, IsFaultOf}
use Rattle.art_cli.specs.Failure.{line_fault_text}
use Rattle.art_cli.specs.Program.{IsReplayFailure, IsFailure, Tells}
use Rattle.art_cli.specs.Request.{AskFor}
use Rattle.art_cli.specs.Words.{words_of}

-- what is as it was keeps its known bytes
pub keeps_itself : (known : Option (List ℕ)) → Keeps known known
keeps_itself None = tt
keeps_itself (Some bytes) = refl

-- nothing is written, which is a beginning
pub nothing_printed : (IsOutput : List ℕ → List ℕ → Type 0) (input known : Option (List ℕ)) → IfSome input (λ given. PrintsBeginning (IsOutput given) known known)
nothing_printed IsOutput None known = tt
nothing_printed IsOutput (Some given) known = inl (keeps_itself known)

-- the text of a failure is known, since that of its fault is
pub text_told : (failure : Failure LineFault) (old new : Option (List ℕ)) → IfSome (shown_failure (λ fault. Some (line_fault_text fault)) failure) (λ text. AppendsBeginning old new (line text)) → AppendsBeginning old new (line (failure_text line_fault_text failure))
text_told (BadLine bad) old new wrote = wrote
text_told OutOfMemory old new wrote = wrote
text_told Device old new wrote = wrote

-- the first bad line of `replay`, and its fault
pub first_bad_line : (input : List ℕ) (failure : Failure LineFault) → IfBadLine (λ bad. (bad.source ≡ OnlyInput) × IsFirstBad SayReplayLine (lines_of input) bad.number) failure → IsLineFailure (λ bad. IsFaultOf (words_of (line_at (lines_of input) bad.number)) bad.fault) failure → IsReplayFailure input failure
first_bad_line input (BadLine bad) first fault = (first.0, first.1, fault)
first_bad_line input OutOfMemory first fault = tt
first_bad_line input Device first fault = absurd fault

-- the device may fail at any input
may_fail : (request : Request) (input : List ℕ) → IsFailure request input Device
may_fail Replay input = tt
may_fail Find0 input = tt
may_fail Find2 input = tt
may_fail Find16 input = tt

pub device_told : {A : Type 0} (words : List (String A)) (request : Request) (input : Option (List ℕ)) (status : ℕ) (old new : Option (List ℕ)) → AskFor words request → status ≡ status_of {F = LineFault} Device → IfSome (shown_failure (λ fault. Some (line_fault_text fault)) Device) (λ text. AppendsBeginning old new (line text)) → Tells words input status old new
device_told words request input status old new asked is wrote =
    inr (Device, sym is, (request, asked, at_input input), text_told Device old new wrote)
  where
    at_input : (input : Option (List ℕ)) → IfSome input (λ given. IsFailure request given Device)
    at_input None = tt
    at_input (Some given) = may_fail request given

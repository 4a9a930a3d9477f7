-- The output of the program for an input, and its failures.
use Rattle.std.specs.Prelude.{◌≡◌, ℕ, List, [], Option, String, ◌⊎◌, length, IfSome}
use Rattle.art_bytes.specs.declared.slice_key.SliceKey.{SliceKey}
use Rattle.art_nodes.specs.Commands.{run_of}
use Rattle.art_nodes.specs.declared.ChildCommand.{ChildCommand}
use Rattle.program_lines.specs.declared.failure.Failure.{Failure}
use Rattle.program_lines.specs.declared.failure.Failure.TheVariants.{BadLine, OutOfMemory, Device}
use Rattle.program_lines.specs.declared.failure.Source.TheVariants.{OnlyInput}
use Rattle.program_lines.specs.Failures.{status_of, failure_text}
use Rattle.program_lines.specs.Lines.{lines_of, line_at, line, SayAll, IsFirstBad}
use Rattle.program_lines.specs.Programs.{AppendsBeginning}
use Rattle.art_cli.specs.declared.failure.LineFault.{LineFault}
use Rattle.art_cli.specs.declared.failure.LineFault.TheVariants.{UnknownCommand, KeyTooLong, PrefixOfOther}
use Rattle.art_cli.specs.declared.request.Request.{Request}
use Rattle.art_cli.specs.declared.request.Request.TheVariants.{Replay, Find0, Find2, Find16}
use Rattle.art_cli.specs.Failure.{usage_text, line_fault_text, failure_at}
use Rattle.art_cli.specs.Request.{AskFor, AreTaken}
use Rattle.art_cli.specs.Words.{words_of}
use Rattle.art_cli.specs.Command.{SayReplayLine, IsFaultOf}
use Rattle.art_cli.specs.Reply.{output_of}
use Rattle.art_cli.specs.Find.{SayTreeCommand, Entries, no_entries, IsRefusedLine, AreAdmitted, AreRefused}
use Rattle.art_cli.specs.Answer.{AreReplies}
use Rattle.art_cli.specs.declared.find.command.TreeCommand.{TreeCommand}
use Rattle.art_cli.specs.declared.find.command.TreeCommand.TheVariants.{Insert}
use Rattle.art_steps.specs.declared.faults.InsertRefusal.{InsertRefusal}
use Rattle.art_steps.specs.declared.faults.InsertRefusal.TheVariants as refusals

-- every line gives a command, and the output is a line for each reply to them, from no children on,
-- and one for the node that is left
abbrev pub IsReplayOutput : List ℕ → List ℕ → Type 0
IsReplayOutput input output =
    (commands : List (ChildCommand (Unit {0}) (Unit {0}) 16)) × SayAll SayReplayLine (lines_of input) commands
    × (output ≡ output_of (run_of [] commands).0 (length (run_of [] commands).1))

-- every line gives a command, no entry is refused, and the output is what the commands print, from
-- no entries on
abbrev pub IsFindOutput : ℕ → List ℕ → List ℕ → Type 0
IsFindOutput room input output =
    (commands : List (TreeCommand (List ℕ))) × SayAll SayTreeCommand (lines_of input) commands
    × AreAdmitted no_entries commands × AreReplies SliceKey room no_entries commands output

-- the output of an input
abbrev pub IsOutput : Request → List ℕ → List ℕ → Type 0
IsOutput Replay = IsReplayOutput
IsOutput Find0 = IsFindOutput 0
IsOutput Find2 = IsFindOutput 2
IsOutput Find16 = IsFindOutput 16

-- the failures of an input of `replay`: the line of this number is the first that gives no command,
-- and it has this fault
abbrev pub IsReplayFailure : List ℕ → Failure LineFault → Type 0
IsReplayFailure input (BadLine bad) =
    (bad.source ≡ OnlyInput) × IsFirstBad SayReplayLine (lines_of input) bad.number
    × IsFaultOf (words_of (line_at (lines_of input) bad.number)) bad.fault
IsReplayFailure input OutOfMemory = Unit {0}
IsReplayFailure input Device = Unit {0}

-- the failure for a refusal of the entry in this line
abbrev pub failure_for : ℕ → InsertRefusal → Failure LineFault
failure_for line refusals.KeyTooLong = failure_at line KeyTooLong
failure_for line refusals.Prefix = failure_at line PrefixOfOther
failure_for line refusals.OutOfMemory = OutOfMemory

-- the failures of the command in this line, beside these entries: its entry is refused. No public
-- clause cites it
abbrev pub IsCommandFailure : Entries → ℕ → TreeCommand (List ℕ) → Failure LineFault → Type 0
IsCommandFailure entries line (Insert key) (BadLine bad) =
    (bad.source ≡ OnlyInput) × (bad.number ≡ line) × IsRefusedLine entries key bad.fault
IsCommandFailure entries line command OutOfMemory = Unit {0}
IsCommandFailure entries line command _ = ⊥

-- the faults of an input of `find`, by the number of the line: it is the first that gives no command;
-- or each gives one, and the entry there is the first that is refused
abbrev pub IsFindFault : List ℕ → ℕ → LineFault → Type 0
IsFindFault input number UnknownCommand = IsFirstBad SayTreeCommand (lines_of input) number
IsFindFault input number fault =
    (commands : List (TreeCommand (List ℕ))) × SayAll SayTreeCommand (lines_of input) commands
    × AreRefused commands number fault

-- the failures of an input of `find`
abbrev pub IsFindFailure : List ℕ → Failure LineFault → Type 0
IsFindFailure input (BadLine bad) = (bad.source ≡ OnlyInput) × IsFindFault input bad.number bad.fault
IsFindFailure input OutOfMemory = Unit {0}
IsFindFailure input Device = Unit {0}

-- the failures of an input
abbrev pub IsFailure : Request → List ℕ → Failure LineFault → Type 0
IsFailure Replay = IsReplayFailure
IsFailure _ = IsFindFailure

module _ {A : Type 0} where
  -- the output that the words ask for
  abbrev pub IsAsked : List (String A) → List ℕ → List ℕ → Type 0
  IsAsked words input output = (request : Request) × AskFor words request × IsOutput request input output

  -- the input has a fault of its own
  abbrev pub IsBad : List (String A) → List ℕ → Type 0
  IsBad words input =
      (request : Request) × AskFor words request × (failure : Failure LineFault) × (status_of failure ≡ 2) × IsFailure request input failure

  -- the failures that there may be where the words are good
  abbrev pub IsRunFailure : List (String A) → Option (List ℕ) → Failure LineFault → Type 0
  IsRunFailure words input failure = (request : Request) × AskFor words request × IfSome input (λ given. IsFailure request given failure)

  -- the first part of a line, and nothing else, is written: of the usage, where the words are bad and
  -- this is 2; or of such a failure, which has this status
  abbrev pub Tells : List (String A) → Option (List ℕ) → ℕ → Option (List ℕ) → Option (List ℕ) → Type 0
  Tells words input status old new =
      ((¬ AreTaken words) × (status ≡ 2) × AppendsBeginning old new (line usage_text))
      ⊎ ((failure : Failure LineFault) × (status_of failure ≡ status) × IsRunFailure words input failure
      × AppendsBeginning old new (line (failure_text line_fault_text failure)))

-- The lines of `find` that are read, and those that are left.
use Rattle.std.proofs.Common.{◌≡◌, ℕ, ◌+◌, ◌<◌, ◌≤◌, List, [], ◌∷◌, ◌++◌, length, refl, ap, arith, subst}
use Rattle.std.proofs.lemmas.List.{length-append}
use Rattle.art_bytes.specs.SliceKey.{slice_key_text}
use Rattle.art_bytes.specs.declared.slice_key.SliceKey.{SliceKey}
use Rattle.art_arena.specs.Arena.{NodeArena}
use Rattle.program_lines.specs.declared.failure.Failure.{Failure}
use Rattle.program_lines.specs.declared.failure.Failure.TheVariants.{BadLine, OutOfMemory, Device}
use Rattle.program_lines.specs.Lines.{lines_of, SayAll, IsFirstBad}
use Rattle.program_lines.proofs.SaidLines.{SaidSoFar, said_first, said_rest, said_whole, said_next, said_bad}
use Rattle.art_cli.specs.declared.find.command.TreeCommand.{TreeCommand}
use Rattle.art_cli.specs.declared.find.command.TreeCommand.TheVariants.{Insert, Remove, Find}
use Rattle.art_cli.specs.declared.failure.LineFault.{LineFault}
use Rattle.art_cli.specs.declared.failure.LineFault.TheVariants.{UnknownCommand, WrongNumberOfWords, BadNumber, KeyTooLong, PrefixOfOther}
use Rattle.art_cli.specs.Failure.{failure_at}
use Rattle.art_cli.specs.Find.{no_entries, after_all, command_line, SayTreeCommand, GiveCommands, IsRefusedLine, AreAdmitted}
use Rattle.art_cli.specs.Program.{IsFindFault, IsFindFailure, IsCommandFailure}
use Rattle.art_cli.proofs.FindLemmas.{SoFar}

-- the lines before the rest give these commands, as many as this number
pub record AreRead (input rest : List ℕ) (number : ℕ) (commands : List (TreeCommand (List ℕ))) : Type 0 where
  pub said : SaidSoFar SayTreeCommand (lines_of input) rest commands
  pub count : number ≡ length commands
  pub left : number + length rest ≤ length input

-- no line is read
pub read_none : (input : List ℕ) → AreRead input input 0 []
read_none input = record { said = said_first SayTreeCommand input [] refl; count = refl; left = omega arith }

-- a list of no length is empty
empty_list : {X : Type 0} (items : List X) → length items ≡ 0 → items ≡ []
empty_list [] none = refl
empty_list (x ∷ items) none = absurd (omega arith)

-- once a line is read, the others give the other commands
pub others_give : (rest left : List ℕ) (command : TreeCommand (List ℕ)) → lines_of rest ≡ command_line command ∷ lines_of left → GiveCommands rest → GiveCommands left
others_give rest left command cut (commands, said) = tail commands (subst (λ lines. SayAll SayTreeCommand lines commands) cut said)
  where
    tail : (commands : List (TreeCommand (List ℕ))) → SayAll SayTreeCommand (command_line command ∷ lines_of left) commands → GiveCommands left
    tail [] said = absurd said
    tail (c ∷ commands) said = (commands, said.1)

module _ (input rest : List ℕ) (number : ℕ) (commands : List (TreeCommand (List ℕ))) (read : AreRead input rest number commands) where
  -- the end is read
  pub read_all : length rest ≡ 0 → SayAll SayTreeCommand (lines_of input) commands
  read_all none = said_whole SayTreeCommand (lines_of input) rest commands read.said (empty_list rest none)

  -- a line is read that gives no command
  pub read_bad : (failure : Failure LineFault) → failure ≡ failure_at (number + 1) UnknownCommand → IsFirstBad SayTreeCommand (lines_of rest) 1 → IsFindFailure input failure
  read_bad failure is nothing =
      rw is (refl, said_bad SayTreeCommand (lines_of input) rest commands read.said 1 (number + 1) (ap (λ n. n + 1) read.count) nothing)

  module _ (command : TreeCommand (List ℕ)) (left : List ℕ) (cut : lines_of rest ≡ command_line command ∷ lines_of left) where
    -- one line more is read
    pub read_one : length left < length rest → AreRead input left (number + 1) (commands ++ command ∷ [])
    read_one shorter = record {
      said = said_next SayTreeCommand (lines_of input) rest commands read.said (command_line command) left cut command (commands ++ command ∷ []) refl refl;
      count = omega (arith, read.count, length-append commands (command ∷ []));
      left = omega (arith, read.left, shorter);
    }

    -- the commands of all lines
    all_given : (given : GiveCommands left) → SayAll SayTreeCommand (lines_of input) (commands ++ command ∷ given.0)
    all_given given =
        let this : SayAll SayTreeCommand (lines_of rest) (command ∷ given.0) = rw cut (refl, given.1) in
        said_rest SayTreeCommand (lines_of input) rest commands read.said (command ∷ given.0) this

    -- its entry is refused
    pub read_refused : GiveCommands left → AreAdmitted no_entries commands → (failure : Failure LineFault) → IsCommandFailure (after_all no_entries commands) (number + 1) command failure → IsFindFailure input failure
    read_refused = by_command command all_given
      where
        by_fault : (key : List ℕ) (given : List (TreeCommand (List ℕ))) → SayAll SayTreeCommand (lines_of input) (commands ++ Insert key ∷ given) → AreAdmitted no_entries commands → (line : ℕ) (fault : LineFault) → line ≡ number + 1 → IsRefusedLine (after_all no_entries commands) key fault → IsFindFault input line fault
        by_fault key given say are line UnknownCommand is due = absurd due
        by_fault key given say are line WrongNumberOfWords is due = absurd due
        by_fault key given say are line BadNumber is due = absurd due
        by_fault key given say are line KeyTooLong is due = (commands ++ Insert key ∷ given, say, (commands, key, given, refl, rw is (ap (λ n. n + 1) read.count), are, due))
        by_fault key given say are line PrefixOfOther is due = (commands ++ Insert key ∷ given, say, (commands, key, given, refl, rw is (ap (λ n. n + 1) read.count), are, due))

        by_command : (command : TreeCommand (List ℕ)) → ((given : GiveCommands left) → SayAll SayTreeCommand (lines_of input) (commands ++ command ∷ given.0)) → GiveCommands left → AreAdmitted no_entries commands → (failure : Failure LineFault) → IsCommandFailure (after_all no_entries commands) (number + 1) command failure → IsFindFailure input failure
        by_command (Insert key) say given are (BadLine bad) due = (due.0, by_fault key given.0 (say given) are bad.number bad.fault due.1 due.2)
        by_command (Remove key) say given are (BadLine bad) due = absurd due
        by_command (Find key) say given are (BadLine bad) due = absurd due
        by_command command say given are OutOfMemory due = tt
        by_command command say given are Device due = tt

-- so many lines are read and their commands carried out, and each line that is left gives one
pub record Underway {P : ℕ} (input rest : List ℕ) (number next : ℕ) (arena : NodeArena SliceKey ℕ P) (output : List ℕ) : Type 0 where
  pub commands : List (TreeCommand (List ℕ))
  pub read : AreRead input rest number commands
  pub so_far : SoFar slice_key_text arena commands next output
  pub ahead : GiveCommands rest

-- The commands that the lines of `find` give, and the entries after them.
use Rattle.std.specs.Prelude.{◌≡◌, ◌≢◌, ℕ, ◌+◌, ◌<◌, ◌≤◌, ◌^◌, List, [], ◌∷◌, ◌++◌, Option, None, Some, bytes_eq, length}
use Rattle.std.specs.Map.{update}
use Rattle.art_steps.specs.Dictionary.{OneIsProperPrefix}
use Rattle.program_lines.specs.Lines.{lines_of, SayAll}
use Rattle.art_cli.specs.declared.failure.LineFault.{LineFault}
use Rattle.art_cli.specs.declared.failure.LineFault.TheVariants.{KeyTooLong, PrefixOfOther}
use Rattle.art_cli.specs.declared.find.command.TreeCommand.{TreeCommand}
use Rattle.art_cli.specs.declared.find.command.TreeCommand.TheVariants.{Insert, Remove, Find}

-- the line of a command: `+`, `-` or `?`, and its key
abbrev pub command_line : TreeCommand (List ℕ) → List ℕ
command_line (Insert key) = 43 ∷ key
command_line (Remove key) = 45 ∷ key
command_line (Find key) = 63 ∷ key

-- a line gives a command
abbrev pub SayTreeCommand : List ℕ → TreeCommand (List ℕ) → Type 0
SayTreeCommand line command = line ≡ command_line command

-- each line gives a command. No public clause cites it
abbrev pub GiveCommands : List ℕ → Type 0
GiveCommands input = (commands : List (TreeCommand (List ℕ))) × SayAll SayTreeCommand (lines_of input) commands

-- a command by the text of its key
abbrev pub with_text : {K : Type 0} → (K → List ℕ) → TreeCommand K → TreeCommand (List ℕ)
with_text text (Insert key) = Insert (text key)
with_text text (Remove key) = Remove (text key)
with_text text (Find key) = Find (text key)

-- the number of each text's entry, if it has one, and that of the next entry
pub record Entries : Type 0 where
  pub number_of : List ℕ → Option ℕ
  pub next : ℕ

-- no text has an entry
abbrev pub no_entries : Entries
no_entries = record { number_of = λ text. None; next = 0 }

-- the entries after a command
abbrev pub after : Entries → TreeCommand (List ℕ) → Entries
after entries (Insert key) = record { number_of = update bytes_eq entries.number_of key (Some entries.next); next = entries.next + 1 }
after entries (Remove key) = record { number_of = update bytes_eq entries.number_of key None; next = entries.next }
after entries (Find key) = entries

-- the entries after commands, from these on
abbrev pub after_all : Entries → List (TreeCommand (List ℕ)) → Entries
after_all entries [] = entries
after_all entries (command ∷ commands) = after_all (after entries command) commands

-- a text that has an entry is a proper prefix of the key, or the key of it
abbrev pub IsPrefixOfOther : Entries → List ℕ → Type 0
IsPrefixOfOther entries key = (other : List ℕ) × (entries.number_of other ≢ None) × OneIsProperPrefix other key

-- why an entry with this key is refused beside these
abbrev pub IsRefusedLine : Entries → List ℕ → LineFault → Type 0
IsRefusedLine entries key KeyTooLong = 2 ^ 32 ≤ length key
IsRefusedLine entries key PrefixOfOther = (length key < 2 ^ 32) × IsPrefixOfOther entries key
IsRefusedLine entries key _ = ⊥

-- a command inserts no entry that is refused
abbrev pub IsAdmitted : Entries → TreeCommand (List ℕ) → Type 0
IsAdmitted entries (Insert key) = (length key < 2 ^ 32) × (¬ IsPrefixOfOther entries key)
IsAdmitted entries _ = Unit {0}

-- nor does any of these, one after another
abbrev pub AreAdmitted : Entries → List (TreeCommand (List ℕ)) → Type 0
AreAdmitted entries [] = Unit {0}
AreAdmitted entries (command ∷ commands) = IsAdmitted entries command × AreAdmitted (after entries command) commands

-- the first entry that is refused is in the line of this number
abbrev pub AreRefused : List (TreeCommand (List ℕ)) → ℕ → LineFault → Type 0
AreRefused commands number fault =
    (before : List (TreeCommand (List ℕ))) × (key : List ℕ) × (others : List (TreeCommand (List ℕ))) × (commands ≡ before ++ Insert key ∷ others)
    × (number ≡ length before + 1) × AreAdmitted no_entries before × IsRefusedLine (after_all no_entries before) key fault

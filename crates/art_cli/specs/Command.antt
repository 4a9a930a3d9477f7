-- The commands that the lines of `replay` give.
use Rattle.std.specs.Prelude.{◌≡◌, ℕ, ◌^◌, ◌<◌, List, [], ◌∷◌, ◌⊎◌, codes}
use Rattle.std.specs.declared.ops.Bound.{Bound}
use Rattle.std.specs.declared.ops.Bound.TheVariants.{Included, Excluded, Unbounded}
use Rattle.program_lines.specs.Numbers.{IsNumber}
use Rattle.art_cli.specs.Words.{words_of}
use Rattle.art_cli.specs.declared.failure.LineFault.{LineFault}
use Rattle.art_cli.specs.declared.failure.LineFault.TheVariants.{UnknownCommand, WrongNumberOfWords, BadNumber}
use Rattle.art_nodes.specs.declared.NodeType.TheVariants.{Leaf}
use Rattle.art_nodes.specs.Pointers.{node_kind, opaque_key}
use Rattle.art_nodes.specs.declared.ChildCommand.{ChildCommand}
use Rattle.art_nodes.specs.declared.ChildCommand.TheVariants.{Write, Remove, Lookup, Min, Max, Range}

-- a number below 256
abbrev pub IsByteNumber : List ℕ → ℕ → Type 0
IsByteNumber word number = IsNumber word number × (number < 256)

-- the number of a leaf, below 2^32
abbrev pub IsLeafNumber : List ℕ → ℕ → Type 0
IsLeafNumber word number = IsNumber word number × (number < 2 ^ 32)

-- a bound: `i` and a byte that is included, `e` and one that is excluded, or `u`
abbrev pub IsBound : List ℕ → Bound ℕ → Type 0
IsBound word (Included byte) = (digits : List ℕ) × (word ≡ 105 ∷ digits) × IsByteNumber digits byte
IsBound word (Excluded byte) = (digits : List ℕ) × (word ≡ 101 ∷ digits) × IsByteNumber digits byte
IsBound word Unbounded = word ≡ 117 ∷ []

module _ {K V : Type 0} {P : ℕ} where
  -- a command, by the words of its line; a child is the pointer to the leaf under its key
  abbrev pub SayCommand : List (List ℕ) → ChildCommand K V P → Type 0
  SayCommand words (Write byte child) = (b key : List ℕ) × (words ≡ codes "w" ∷ b ∷ key ∷ []) × IsByteNumber b byte × IsLeafNumber key (opaque_key child) × (node_kind child ≡ Leaf)
  SayCommand words (Remove byte) = (b : List ℕ) × (words ≡ codes "r" ∷ b ∷ []) × IsByteNumber b byte
  SayCommand words (Lookup byte) = (b : List ℕ) × (words ≡ codes "l" ∷ b ∷ []) × IsByteNumber b byte
  SayCommand words Min = words ≡ codes "min" ∷ []
  SayCommand words Max = words ≡ codes "max" ∷ []
  SayCommand words (Range start end) = (low high : List ℕ) × (words ≡ codes "range" ∷ low ∷ high ∷ []) × IsBound low start × IsBound high end

-- a line gives a command, by its words
abbrev pub SayReplayLine : List ℕ → ChildCommand (Unit {0}) (Unit {0}) 16 → Type 0
SayReplayLine line = SayCommand (words_of line)

-- words that give no command. No public clause cites it
abbrev pub SayNothing : List (List ℕ) → Type 0
SayNothing words = (command : ChildCommand (Unit {0}) (Unit {0}) 16) → SayCommand words command → ⊥

-- the name of a command
abbrev pub IsName : List ℕ → Type 0
IsName word = (word ≡ codes "w") ⊎ (word ≡ codes "r") ⊎ (word ≡ codes "l") ⊎ (word ≡ codes "min") ⊎ (word ≡ codes "max") ⊎ (word ≡ codes "range")

-- the first word is the name of a command
abbrev pub BeginWithName : List (List ℕ) → Type 0
BeginWithName [] = ⊥
BeginWithName (name ∷ others) = IsName name

-- the name of a command, and as many words after it as the command takes
abbrev pub HaveTheirNumber : List (List ℕ) → Type 0
HaveTheirNumber (name ∷ []) = (name ≡ codes "min") ⊎ (name ≡ codes "max")
HaveTheirNumber (name ∷ byte ∷ []) = (name ≡ codes "r") ⊎ (name ≡ codes "l")
HaveTheirNumber (name ∷ first ∷ second ∷ []) = (name ≡ codes "w") ⊎ (name ≡ codes "range")
HaveTheirNumber words = ⊥

-- the fault of words that give no command: their name, or else their number, or else one of the
-- words after the name
abbrev pub IsFaultOf : List (List ℕ) → LineFault → Type 0
IsFaultOf words UnknownCommand = ¬ BeginWithName words
IsFaultOf words WrongNumberOfWords = BeginWithName words × (¬ HaveTheirNumber words)
IsFaultOf words BadNumber = HaveTheirNumber words
IsFaultOf words _ = ⊥

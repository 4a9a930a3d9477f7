-- What the lines of the list and of the input say.
use Rattle.std.specs.Prelude.{◌≡◌, ℕ, ◌<◌, ◌^◌, ◌-◌, List, ◌∷◌, ◌++◌, length}
use Rattle.art_bytes.specs.CString.{HasNoZero}
use Rattle.program_lines.specs.Lines.{HasNo}
use Rattle.program_lines.specs.Numbers.{IsNumber}
use Rattle.words.specs.declared.dictionary.Word.{Word}
use Rattle.words.specs.declared.query.Query.{Query}
use Rattle.words.specs.declared.query.Query.TheVariants.{Begin, FirstOf, Count, Before, After}

-- a line of the list is a word: no byte is zero
abbrev pub SayWord : List ℕ → Word → Type 0
SayWord line word = (word.bytes.now ≡ line) × HasNoZero line × (length line < 2 ^ 32 - 1)

-- no byte is zero or a space
abbrev pub IsPrefix : List ℕ → Type 0
IsPrefix text = HasNoZero text × HasNo 32 text

-- a line of the input is a query: `?PREFIX`, `?PREFIX N`, `#PREFIX`, `<WORD` or `>WORD`
abbrev pub SayWordQuery : List ℕ → Query → Type 0
SayWordQuery line (Begin prefix) = (line ≡ 63 ∷ prefix.now) × IsPrefix prefix.now
SayWordQuery line (FirstOf prefix most) =
    (digits : List ℕ) × (line ≡ 63 ∷ prefix.now ++ 32 ∷ digits) × IsPrefix prefix.now × IsNumber digits most
SayWordQuery line (Count prefix) = (line ≡ 35 ∷ prefix.now) × HasNoZero prefix.now
SayWordQuery line (Before word) = (line ≡ 60 ∷ word.now) × HasNoZero word.now
SayWordQuery line (After word) = (line ≡ 62 ∷ word.now) × HasNoZero word.now

-- the query is for the first words with this prefix, so many of them. No public clause cites it
abbrev pub IsFirstOf : Query → List ℕ → ℕ → Type 0
IsFirstOf (FirstOf prefix most) text number = (prefix.now ≡ text) × (most ≡ number)
IsFirstOf _ text number = ⊥

-- some line says the query. No public clause cites it
abbrev pub IsSaid : Query → Type 0
IsSaid query = (line : List ℕ) × SayWordQuery line query

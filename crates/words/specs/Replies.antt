-- The output for a list and queries, and which lines are bad.
use Rattle.std.specs.Prelude.{◌≡◌, ℕ, ◌-◌, List, ◌++◌, Option, None, Some, codes, filter, length, nat_eq, slice_get, take}
use Rattle.std.specs.Fmt.{decimal}
use Rattle.std.specs.List.{flat_map, starts_with}
use Rattle.std.specs.Ordering.{is_lt, is_gt}
use Rattle.art_bytes.specs.Text.{text_order}
use Rattle.program_lines.specs.Lines.{line, lines_of, line_at, SayAll, SayLine, IsFirstBad}
use Rattle.program_lines.specs.Faults.{IsLineFault}
use Rattle.program_lines.specs.declared.failure.BadLine.{BadLine}
use Rattle.program_lines.specs.declared.line_fault.LineFault.{LineFault}
use Rattle.program_lines.specs.declared.failure.Source.TheVariants.{File}
use Rattle.words.specs.declared.dictionary.Word.{Word}
use Rattle.words.specs.declared.fault.Fault.{Fault}
use Rattle.words.specs.declared.query.Query.{Query}
use Rattle.words.specs.declared.query.Query.TheVariants.{Begin, FirstOf, Count, Before, After}
use Rattle.words.specs.Faults.{IsWordFault, IsWordQueryFault}
use Rattle.words.specs.Queries.{SayWord, SayWordQuery}
use Rattle.words.specs.Dictionaries.{IsDictionary}

-- the words that begin with the prefix
abbrev pub words_with_prefix : List ℕ → List (List ℕ) → List (List ℕ)
words_with_prefix prefix words = filter (λ word. starts_with nat_eq word prefix) words

-- the words below this one, and those above it
abbrev pub words_below : List ℕ → List (List ℕ) → List (List ℕ)
words_below this words = filter (λ word. is_lt (text_order word this)) words

abbrev pub words_above : List ℕ → List (List ℕ) → List (List ℕ)
words_above this words = filter (λ word. is_gt (text_order word this)) words

-- a line with the word, or with none
abbrev pub neighbour : Option (List ℕ) → List ℕ
neighbour None = line (codes "none")
neighbour (Some word) = line word

-- what a query prints, where these are the words in order
abbrev pub reply : List (List ℕ) → Query → List ℕ
reply words (Begin prefix) = flat_map line (words_with_prefix prefix.now words)
reply words (FirstOf prefix most) = flat_map line (take most (words_with_prefix prefix.now words))
reply words (Count prefix) = line (decimal (length (words_with_prefix prefix.now words)))
reply words (Before word) = neighbour (slice_get (words_below word.now words) (length (words_below word.now words) - 1))
reply words (After word) = neighbour (slice_get (words_above word.now words) 0)

-- the first line of the output: how many words there are, in how many lines
abbrev pub counts : List (List ℕ) → List (List ℕ) → List ℕ
counts words list = line (decimal (length words) ++ codes " words in " ++ decimal (length list) ++ codes " lines")

-- each line of the list is a word, and these are the words in order
abbrev pub IsList : List ℕ → List (List ℕ) → Type 0
IsList list words = (given : List Word) × SayAll (SayLine SayWord) (lines_of list) given × IsDictionary (lines_of list) words

-- the output for a list begins with the counts
abbrev pub IsHeading : List ℕ → List ℕ → Type 0
IsHeading list heading = (words : List (List ℕ)) × IsList list words × (heading ≡ counts words (lines_of list))

-- a line of the input is a query, and this is the reply
abbrev pub HasWordReply : List ℕ → List ℕ → List ℕ → Type 0
HasWordReply list line text = (words : List (List ℕ)) × (query : Query) × IsList list words × SayLine SayWordQuery line query × (text ≡ reply words query)

-- this is the first line of the list that is no word, and its fault
abbrev pub IsFirstBadWord : List ℕ → BadLine (LineFault Fault) → Type 0
IsFirstBadWord list bad =
    (bad.source ≡ File) × IsFirstBad (SayLine SayWord) (lines_of list) bad.number
    × IsLineFault IsWordFault (line_at (lines_of list) bad.number) bad.fault

-- a line of the input is no query, and this is its fault
abbrev pub HasWordFault : List ℕ → LineFault Fault → Type 0
HasWordFault line fault = ((query : Query) → ¬ SayLine SayWordQuery line query) × IsLineFault IsWordQueryFault line fault

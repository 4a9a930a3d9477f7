-- What may be wrong with a line of the list or of the input.
use Rattle.std.specs.Prelude.{◌≡◌, ◌≢◌, ◌⊎◌, ℕ, ◌<◌, ◌^◌, ◌-◌, List, ◌∷◌, codes, length}
use Rattle.art_bytes.specs.CString.{HasNoZero}
use Rattle.program_lines.specs.Lines.{HasNo, IsCutAt}
use Rattle.program_lines.specs.Numbers.{IsNumber}
use Rattle.words.specs.declared.fault.Fault.{Fault}
use Rattle.words.specs.declared.fault.Fault.TheVariants.{ZeroByte, WordTooLong, UnknownQuery, BadNumber}

-- what a failure's line says of the fault
abbrev pub word_fault_text : Fault → List ℕ
word_fault_text ZeroByte = codes "zero byte"
word_fault_text WordTooLong = codes "word too long"
word_fault_text UnknownQuery = codes "unknown query"
word_fault_text BadNumber = codes "bad number"

-- what is wrong with a line that is no word
abbrev pub IsWordFault : List ℕ → Fault → Type 0
IsWordFault line WordTooLong = ¬ (length line < 2 ^ 32 - 1)
IsWordFault line ZeroByte = (length line < 2 ^ 32 - 1) × (¬ HasNoZero line)
IsWordFault line _ = ⊥

-- what is wrong with what follows `?`, a prefix and maybe a space and a number
abbrev pub IsBeginFault : List ℕ → Fault → Type 0
IsBeginFault rest ZeroByte =
    (HasNo 32 rest × (¬ HasNoZero rest)) ⊎ ((prefix digits : List ℕ) × IsCutAt 32 rest prefix digits × (¬ HasNoZero prefix))
IsBeginFault rest BadNumber = (prefix digits : List ℕ) × IsCutAt 32 rest prefix digits × HasNoZero prefix × ((most : ℕ) → ¬ IsNumber digits most)
IsBeginFault rest _ = ⊥

-- what is wrong with a line that is no query: it begins with none of `?`, `#`, `<` and `>`, or what follows is wrong
abbrev pub IsWordQueryFault : List ℕ → Fault → Type 0
IsWordQueryFault line UnknownQuery = (first : ℕ) (rest : List ℕ) → line ≡ first ∷ rest → (first ≢ 63) × (first ≢ 35) × (first ≢ 60) × (first ≢ 62)
IsWordQueryFault line fault =
    ((rest : List ℕ) × (line ≡ 63 ∷ rest) × IsBeginFault rest fault)
    ⊎ ((fault ≡ ZeroByte) × ((first : ℕ) × (text : List ℕ) × ((first ≡ 35) ⊎ ((first ≡ 60) ⊎ (first ≡ 62))) × (line ≡ first ∷ text) × (¬ HasNoZero text)))

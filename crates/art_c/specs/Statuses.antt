-- The statuses that calls return, as the header names them.
use Rattle.std.specs.Prelude.{◌≡◌, ◌≢◌, ◌⊎◌, ℕ, zero, suc, List, length, Option, Some, None, nat_le, if◌then◌else◌}

abbrev pub ART_NONE : ℕ
ART_NONE = 0

abbrev pub ART_SOME : ℕ
ART_SOME = 1

abbrev pub ART_NO_MEMORY : ℕ
ART_NO_MEMORY = 2

abbrev pub ART_KEY_TOO_LONG : ℕ
ART_KEY_TOO_LONG = 3

abbrev pub ART_SMALL_BUFFER : ℕ
ART_SMALL_BUFFER = 4

abbrev pub ART_NO_MAP : ℕ
ART_NO_MAP = 5

abbrev pub ART_HAS_MAP : ℕ
ART_HAS_MAP = 6

abbrev pub ART_NOT_EMPTY : ℕ
ART_NOT_EMPTY = 7

abbrev pub ART_NOT_ASCENDING : ℕ
ART_NOT_ASCENDING = 8

abbrev pub ART_BAD_NETWORK : ℕ
ART_BAD_NETWORK = 9

-- no refusal of a call that takes a map
abbrev pub IsDone : ℕ → Type 0
IsDone status = (status ≢ ART_NO_MEMORY) × (status ≢ ART_NO_MAP)

-- such a refusal, or that of a key
abbrev pub IsRefusalStatus : ℕ → Type 0
IsRefusalStatus status = (status ≡ ART_NO_MEMORY) ⊎ (status ≡ ART_NO_MAP) ⊎ (status ≡ ART_KEY_TOO_LONG)

-- one of the refusals of a load
abbrev pub IsLoadRefusal : ℕ → Type 0
IsLoadRefusal status = (status ≡ ART_NO_MAP) ⊎ (status ≡ ART_NOT_EMPTY) ⊎ (status ≡ ART_NOT_ASCENDING) ⊎ (status ≡ ART_KEY_TOO_LONG) ⊎ (status ≡ ART_NO_MEMORY)

-- whether there is such an entry
abbrev pub status_of_found : {X : Type 0} → Option X → ℕ
status_of_found None = ART_NONE
status_of_found (Some x) = ART_SOME

-- the same, for a buffer of so many bytes in which its key has to fit
abbrev pub status_in : Option (List ℕ × ℕ) → ℕ → ℕ
status_in None room = ART_NONE
status_in (Some entry) room = if nat_le (length entry.0) room then ART_SOME else ART_SMALL_BUFFER

-- whether so many entries were written; or else there is one whose key of so many bytes does not fit, or none
abbrev pub batch_status : ℕ → Option ℕ → ℕ
batch_status count (Some unfit) = ART_SMALL_BUFFER
batch_status zero None = ART_NONE
batch_status (suc count) None = ART_SOME

-- the length of the key that is found, or what was there before
abbrev pub key_len_or : Option (List ℕ × ℕ) → ℕ → ℕ
key_len_or None before = before
key_len_or (Some entry) before = length entry.0

-- the value of the entry whose key fits into so many bytes, or what was there before
abbrev pub value_in : Option (List ℕ × ℕ) → ℕ → ℕ → ℕ
value_in None room before = before
value_in (Some entry) room before = if nat_le (length entry.0) room then entry.1 else before

-- the key and the value of an entry, or what was there before
abbrev pub number_or : Option (ℕ × ℕ) → ℕ → ℕ
number_or None before = before
number_or (Some entry) before = entry.0

abbrev pub value_or : Option (ℕ × ℕ) → ℕ → ℕ
value_or None before = before
value_or (Some entry) before = entry.1

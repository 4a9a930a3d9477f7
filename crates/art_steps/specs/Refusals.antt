-- Loading: the refusals of a list of entries, by the texts of their keys.
use Rattle.std.specs.Prelude.{◌≡◌, ℕ, ◌+◌, ◌<◌, ◌^◌, List, [], length, map, nat_eq, nat_le, slice_index_or, Option, Some, None, if◌then◌else◌}
use Rattle.std.specs.List.{starts_with}
use Rattle.std.specs.Ordering.{is_lt}
use Rattle.art_bytes.specs.Text.{text_order}
use Rattle.art_steps.specs.declared.check.LoadRefusal.{LoadRefusal}
use Rattle.art_steps.specs.declared.check.LoadRefusal.TheVariants.{Empty, KeyTooLong, NotAscending, Prefix, OutOfMemory}

-- the texts of the entries' keys
abbrev pub texts_of : {K V : Type 0} → (K → List ℕ) → List (K × V) → List (List ℕ)
texts_of text entries = map (λ entry. text entry.0) entries

-- the text of the entry at an index
abbrev pub text_of_entry : List (List ℕ) → ℕ → List ℕ
text_of_entry texts i = slice_index_or texts i []

-- what is wrong between the text at an index and the next one
abbrev pub fault_between : ℕ → List ℕ → List ℕ → Option LoadRefusal
fault_between i text next =
    if is_lt (text_order text next)
    then (if starts_with nat_eq next text then Some (Prefix i) else None)
    else Some (NotAscending i)

-- the fault of the entry at an index: it is too long, not below the next one, or a proper prefix of
-- it, the first of these
abbrev pub fault_at : List (List ℕ) → ℕ → Option LoadRefusal
fault_at texts i =
    if nat_le (2 ^ 32) (length (text_of_entry texts i)) then Some (KeyTooLong i) else
    if nat_le (length texts) (i + 1) then None else
    fault_between i (text_of_entry texts i) (text_of_entry texts (i + 1))

-- the refusal is the fault of the lowest entry that has one, or that there is no entry
abbrev pub IsRefusal : List (List ℕ) → LoadRefusal → Type 0
IsRefusal [] refusal = refusal ≡ Empty
IsRefusal texts refusal =
    (i : ℕ) × (i < length texts) × (fault_at texts i ≡ Some refusal)
    × ((earlier : ℕ) → earlier < i → fault_at texts earlier ≡ None)

-- there are entries, and none has a fault
abbrev pub HaveNoFault : List (List ℕ) → Type 0
HaveNoFault texts = (0 < length texts) × ((i : ℕ) → i < length texts → fault_at texts i ≡ None)

-- the refusal is the first fault, or else an allocation failure
abbrev pub IsDue : List (List ℕ) → LoadRefusal → Type 0
IsDue texts OutOfMemory = HaveNoFault texts
IsDue texts refusal = IsRefusal texts refusal

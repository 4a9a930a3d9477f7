-- Lists of entries in ascending order of their keys, in the words that std has for a `BTreeMap`.
use Rattle.std.specs.Prelude.{◌≡◌, ℕ, ◌+◌, ◌^◌, ◌<◌, ◌≤◌, List, All, HoldsAt, length, take, drop, Option, Result, Ok, Err}
use Rattle.std.specs.BTreeMap.{is_at}
use Rattle.std.specs.List.Sorted.{IsStrictlySortedBy}
use Rattle.std.specs.Map.{keys_of, lookup, lookup_key}
use Rattle.std.specs.declared.cmp.Ordering.{Ordering}
use Rattle.std.specs.declared.cmp.Ordering.TheVariants.{Less, Equal, Greater}

-- a key that an index can hold: one that its type has, with an encoding of less than 2 ^ 32 bytes
abbrev pub IsIndexable : {K : Type 0} → (K → Type 0) → (K → List ℕ) → K → Type 0
IsIndexable is_key encoded key = is_key key × (length (encoded key) < 2 ^ 32)

module _ {K V : Type 0} where
  -- the keys ascend
  abbrev pub IsOrdered : (K → K → Ordering) → List (K × V) → Type 0
  IsOrdered cmp entries = IsStrictlySortedBy cmp (keys_of entries)

  -- each key is one that an index can hold
  abbrev pub AreKeys : (K → Type 0) → (K → List ℕ) → List (K × V) → Type 0
  AreKeys is_key encoded entries = All (λ entry. IsIndexable is_key encoded entry.0) entries

  -- the value at the key to which a query compares `Equal`
  abbrev pub get_by : (K → Ordering) → List (K × V) → Option V
  get_by compare entries = lookup (is_at compare) entries

  -- the key to which a query compares `Equal`
  abbrev pub get_key_by : (K → Ordering) → List (K × V) → Option K
  get_key_by compare entries = lookup_key (is_at compare) entries

  -- each of these entries is below a query
  abbrev pub AllBelow : (K → Ordering) → List (K × V) → Type 0
  AllBelow compare entries = All (λ entry. compare entry.0 ≡ Greater) entries

  -- each of these entries is above a query
  abbrev pub AllAbove : (K → Ordering) → List (K × V) → Type 0
  AllAbove compare entries = All (λ entry. compare entry.0 ≡ Less) entries

  -- the index of the entry to which a query compares `Equal`, or else of the first entry above the query
  abbrev pub IsPlaceOf : (K → Ordering) → List (K × V) → Result ℕ ℕ → Type 0
  IsPlaceOf compare entries (Ok place) =
      (place < length entries) × HoldsAt (λ entry. compare entry.0 ≡ Equal) entries place × AllBelow compare (take place entries) × AllAbove compare (drop (place + 1) entries)
  IsPlaceOf compare entries (Err place) =
      (place ≤ length entries) × AllBelow compare (take place entries) × AllAbove compare (drop place entries)

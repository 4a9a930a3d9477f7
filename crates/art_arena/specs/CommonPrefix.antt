-- Longest common prefixes of keys, and a prefix compared with the rest of a key.
use Rattle.std.specs.Prelude.{◌≡◌, ◌==◌, ℕ, List, length, All, take, drop, min, nat_eq, Result, Ok, Err, if◌then◌else◌, slice_index}
use Rattle.std.specs.List.{common_prefix_len}
use Rattle.std.specs.declared.cmp.Ordering.{Ordering}
use Rattle.art_bytes.specs.Text.{IsPrefixOf, text_order}

-- the longest common prefix: a prefix of each of these texts, of which every other such prefix is a
-- prefix
pub record IsLongestCommonPrefix (texts : List (List ℕ)) (front : List ℕ) : Type 0 where
  pub begins_each : All (IsPrefixOf front) texts
  pub longest : (other : List ℕ) → All (IsPrefixOf other) texts → IsPrefixOf other front

-- what the longest common prefix of these texts has from this depth on
abbrev pub IsSharedFrom : ℕ → List (List ℕ) → List ℕ → Type 0
IsSharedFrom depth texts shared = (front : List ℕ) × IsLongestCommonPrefix texts front × (shared ≡ drop depth front)

-- the order of a prefix against as many bytes of the rest as both have
abbrev pub prefix_order : List ℕ → List ℕ → Ordering
prefix_order prefix rest = text_order prefix (take (min (length prefix) (length rest)) rest)

-- where a prefix and a rest differ: after so many equal bytes, at this byte of the prefix, in this
-- order
pub record Parting : Type 0 where
  pub equal_bytes : ℕ
  pub prefix_byte : ℕ
  pub order : Ordering

-- a prefix against a rest: the length of the prefix where all of it matches, or where they differ
abbrev pub full_match : List ℕ → List ℕ → Result ℕ Parting
full_match prefix rest =
    let equal_bytes = common_prefix_len nat_eq prefix rest in
    if equal_bytes == length prefix
    then Ok equal_bytes
    else Err (record { equal_bytes = equal_bytes; prefix_byte = slice_index prefix equal_bytes; order = prefix_order prefix rest })

-- this is how what the texts share from this depth on compares with what a key has there
abbrev pub IsFullMatch : ℕ → List (List ℕ) → List ℕ → Result ℕ Parting → Type 0
IsFullMatch depth texts key found =
    (shared : List ℕ) → IsSharedFrom depth texts shared → found ≡ full_match shared (drop depth key)

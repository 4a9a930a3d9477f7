-- The entries within two bounds.
use Rattle.std.specs.Prelude.{◌≡◌, ℕ, Bool, true, false, ◌&&◌, not, List, take, drop, filter}
use Rattle.std.specs.Ordering.{is_lt, is_le}
use Rattle.std.specs.declared.cmp.Ordering.{Ordering}
use Rattle.std.specs.declared.ops.Bound.{Bound}
use Rattle.std.specs.declared.ops.Bound.TheVariants.{Included, Excluded, Unbounded}

-- bounds of queries, of which this says how they compare to keys
module _ {Q K : Type 0} (compare : Q → K → Ordering) where
  -- whether a key is within a start bound: at its query or above it, only above it where it is excluded
  abbrev pub is_from : Bound Q → K → Bool
  is_from (Included query) key = is_le (compare query key)
  is_from (Excluded query) key = is_lt (compare query key)
  is_from Unbounded key = true

  -- whether a key is past an end bound: above its query, also at it where it is excluded
  abbrev pub is_past : Bound Q → K → Bool
  is_past (Included query) key = is_lt (compare query key)
  is_past (Excluded query) key = is_le (compare query key)
  is_past Unbounded key = false

  -- the entries whose keys are within both bounds
  abbrev pub entries_within : {V : Type 0} → Bound Q → Bound Q → List (K × V) → List (K × V)
  entries_within start end entries = filter (λ entry. is_from start entry.0 && not (is_past end entry.0)) entries

-- some items of a list that stand next to each other
abbrev pub IsPartOf : {X : Type 0} → List X → List X → Type 0
IsPartOf list part = (start : ℕ) × (count : ℕ) × (part ≡ take count (drop start list))

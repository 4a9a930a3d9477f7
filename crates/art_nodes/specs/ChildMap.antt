-- Child maps: the children of an inner node, as a finite map from bytes.
use Rattle.std.specs.Prelude.{suc, ◌-◌, ◌&&◌, true, IsTrue, nat_le, ℕ, ◌<◌, ◌++◌, ◌==◌, Bool, not, List, [], ◌∷◌, Option, Some, None, filter, map, nat_lt, if◌then◌else◌, slice_get, ◌≤◌, length}
use Rattle.std.specs.declared.ops.Bound.{Bound}
use Rattle.std.specs.declared.ops.Bound.TheVariants.{Included, Excluded, Unbounded}

-- a child map: pairs of a byte and a child, by ascending byte
abbrev pub ChildMap : Type 0 → Type 0
ChildMap H = List (ℕ × H)

-- bytes below 256, each at least `low` and greater than those before it
abbrev pub IsAscendingFrom : ℕ → List ℕ → Type 0
IsAscendingFrom low [] = Unit {0}
IsAscendingFrom low (b ∷ bytes) = (low ≤ b) × (b < 256) × IsAscendingFrom (suc b) bytes

-- bytes below 256, each greater than those before it
abbrev pub IsAscending : List ℕ → Type 0
IsAscending bytes = IsAscendingFrom 0 bytes

-- the byte is not before the start
abbrev pub meets_start : Bound ℕ → ℕ → Bool
meets_start (Included n) byte = nat_le n byte
meets_start (Excluded n) byte = nat_lt n byte
meets_start Unbounded byte = true

-- the byte is not past the end
abbrev pub meets_end : Bound ℕ → ℕ → Bool
meets_end (Included n) byte = nat_le byte n
meets_end (Excluded n) byte = nat_lt byte n
meets_end Unbounded byte = true

-- valid bounds of a range: where both are excluded, the start is below the end, else not above it
abbrev pub are_valid_bounds : Bound ℕ → Bound ℕ → Bool
are_valid_bounds (Excluded start) (Excluded end) = nat_lt start end
are_valid_bounds (Excluded start) (Included end) = nat_le start end
are_valid_bounds (Included start) (Excluded end) = nat_le start end
are_valid_bounds (Included start) (Included end) = nat_le start end
are_valid_bounds Unbounded end = true
are_valid_bounds (Included start) Unbounded = true
are_valid_bounds (Excluded start) Unbounded = true

-- the bounds are valid
abbrev pub AreValidBounds : Bound ℕ → Bound ℕ → Type 0
AreValidBounds start end = IsTrue (are_valid_bounds start end)

module _ {H : Type 0} where
  -- the bytes that have a child
  abbrev pub key_bytes : ChildMap H → List ℕ
  key_bytes children = map (λ p. p.0) children

  -- the child under a byte, if there is one
  abbrev pub child_at : ChildMap H → ℕ → Option H
  child_at [] byte = None
  child_at ((b, child) ∷ others) byte = if b == byte then Some child else child_at others byte

  -- the map with this child under the byte, and any other byte as before
  abbrev pub with_child : ChildMap H → ℕ → H → ChildMap H
  with_child children byte child = filter (λ p. nat_lt p.0 byte) children ++ (byte, child) ∷ filter (λ p. nat_lt byte p.0) children

  -- the map without the byte
  abbrev pub without_child : ChildMap H → ℕ → ChildMap H
  without_child children byte = filter (λ p. not (p.0 == byte)) children

  -- the pair of the least byte, if there is one
  abbrev pub first_pair : ChildMap H → Option (ℕ × H)
  first_pair children = slice_get children 0

  -- the pair of the greatest byte, if there is one
  abbrev pub last_pair : ChildMap H → Option (ℕ × H)
  last_pair children = slice_get children (length children - 1)

  -- the pairs whose byte meets both bounds
  abbrev pub pairs_within : ChildMap H → Bound ℕ → Bound ℕ → ChildMap H
  pairs_within children start end = filter (λ p. meets_start start p.0 && meets_end end p.0) children

  -- the children in a table of places, whose first place is that of `byte`
  abbrev pub table_children : ℕ → List (Option H) → ChildMap H
  table_children byte [] = []
  table_children byte (None ∷ places) = table_children (suc byte) places
  table_children byte (Some child ∷ places) = (byte, child) ∷ table_children (suc byte) places

-- Bounds of the keys that begin alike.
use Rattle.std.specs.Prelude.{ℕ, suc, ◌^◌, List, [], ◌∷◌, ◌++◌, length, take, replicate, map, zero, Bool, nat_eq}
use Rattle.std.specs.List.{starts_with}
use Rattle.std.specs.Ordering.{nat_cmp}
use Rattle.std.specs.Cmp.Lexicographic.{slice_cmp}
use Rattle.std.specs.declared.cmp.Ordering.{Ordering}
use Rattle.std.specs.declared.cmp.Ordering.TheVariants.{Less, Greater}
use Rattle.art_keys.specs.Groups.{grouped}
use Rattle.art_keys.specs.declared.prefix.Edge.{Edge}
use Rattle.art_keys.specs.declared.prefix.Edge.TheVariants.{Lowest, Highest}

-- the bytes of the bound above all keys: more than an encoding in an index has, each the greatest
unfoldable pub highest : List ℕ
highest = replicate (2 ^ 33) 255

-- the bytes of the bound below all keys, or above all
abbrev pub edge_encoded : Edge → List ℕ
edge_encoded Lowest = []
edge_encoded Highest = highest

-- how that bound compares to a key
abbrev pub edge_order : Edge → Ordering
edge_order Lowest = Less
edge_order Highest = Greater

-- how a prefix compares to a text: equal to each that begins with it
abbrev pub prefix_cmp : List ℕ → List ℕ → Ordering
prefix_cmp prefix text = slice_cmp nat_cmp prefix (take (length prefix) text)

-- whether a text begins with a prefix
abbrev pub begins_with : List ℕ → List ℕ → Bool
begins_with prefix text = starts_with nat_eq text prefix

-- the bytes of a bound of strings: each byte of the prefix plus one
abbrev pub raised_bound : List ℕ → Edge → List ℕ
raised_bound prefix edge = map suc prefix ++ edge_encoded edge

-- the groups of a byte string up to its last byte
abbrev pub begun_from : ℕ → List ℕ → List ℕ
begun_from room [] = []
begun_from zero (byte ∷ bytes) = 9 ∷ byte ∷ begun_from 7 bytes
begun_from (suc room) (byte ∷ bytes) = byte ∷ begun_from room bytes

-- the bytes of a bound of byte strings: the prefix itself, or its bytes and no end
abbrev pub grouped_bound : List ℕ → Edge → List ℕ
grouped_bound prefix Lowest = grouped prefix
grouped_bound prefix Highest = begun_from 8 prefix ++ highest

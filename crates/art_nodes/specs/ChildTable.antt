-- A range of the places of a table. No public clause cites these words.
use Rattle.std.specs.Prelude.{ℕ, ◌-◌, List, take, drop, Option}
use Rattle.art_nodes.specs.ByteSet.{has_byte, marked_places}
use Rattle.art_nodes.specs.ChildMap.{ChildMap, table_children}

module _ {H : Type 0} where
  -- the children from one byte on, below another
  abbrev pub children_within : List (Option H) → ℕ → ℕ → ChildMap H
  children_within places first end = table_children first (take (end - first) (drop first places))

  -- the same, where a set of bytes marks the places that have a child
  abbrev pub filled_within : List ℕ → List H → ℕ → ℕ → ChildMap H
  filled_within words children first end = children_within (marked_places (has_byte words) 0 children) first end

-- Gaps between the items of a list: the items before the gap, and those after it.
use Rattle.std.specs.Prelude.{◌≡◌, ◌-◌, Bool, true, false, List, ◌++◌, length, take, drop}

module _ {X : Type 0} where
  -- the items before a gap and those after it, where those on one side are given: those after it, or else those before it
  abbrev pub gap_sides : List X → Bool → List X → List X × List X
  gap_sides list true after = (take (length list - length after) list, after)
  gap_sides list false before = (before, drop (length before) list)

  -- a gap of a list has these items before it and after it
  abbrev pub AreSides : List X → List X × List X → Type 0
  AreSides list sides = sides.0 ++ sides.1 ≡ list

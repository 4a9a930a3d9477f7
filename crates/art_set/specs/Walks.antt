-- A walk along two lists of keys that ascend. No public clause cites this.
use Rattle.std.specs.Prelude.{Bool, List, [], ◌∷◌, if◌then◌else◌}
use Rattle.std.specs.Ordering.{match_ordering}
use Rattle.std.specs.declared.cmp.Ordering.{Ordering}

module _ {K : Type 0} (cmp : K → K → Ordering) (first both second : Bool) where
  -- a walk along two ascending lists, of which this key is the first of the one
  abbrev pub walk_from : K → (List K → List K) → List K → List K
  walk_from key rest [] = if first then key ∷ rest [] else rest []
  walk_from key rest (other ∷ others) =
      match_ordering (cmp key other)
      (if first then key ∷ rest (other ∷ others) else rest (other ∷ others))
      (if both then key ∷ rest others else rest others)
      (if second then other ∷ walk_from key rest others else walk_from key rest others)

  -- the keys that a walk along two ascending lists takes: those of the first alone, those of both, as the first has
  -- them, and those of the second alone, each if it is told to
  abbrev pub walk : List K → List K → List K
  walk [] others = if second then others else []
  walk (key ∷ keys) others = walk_from key (walk keys) others

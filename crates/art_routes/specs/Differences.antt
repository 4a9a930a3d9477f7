-- A walk along two lists of routes in order. No public clause cites this.
use Rattle.std.specs.Prelude.{Bool, List, [], ◌∷◌, if◌then◌else◌, map}
use Rattle.std.specs.Ordering.{match_ordering}
use Rattle.art_routes.specs.declared.difference.Change.{Change}
use Rattle.art_routes.specs.declared.difference.Change.TheVariants.{Insert, Remove, Replace}
use Rattle.art_routes.specs.Networks.{Block, network_order}

module _ {V : Type 0} (eq : V → V → Bool) where
  -- the changes of a walk of which this route is the first of the old ones
  abbrev pub differences_from : Block × V → (List (Block × V) → List (Change V)) → List (Block × V) → List (Change V)
  differences_from route rest [] = Remove route.0 route.1 ∷ rest []
  differences_from route rest (other ∷ others) =
      match_ordering (network_order route.0 other.0)
      (Remove route.0 route.1 ∷ rest (other ∷ others))
      (if eq route.1 other.1 then rest others else Replace other.0 other.1 ∷ rest others)
      (Insert other.0 other.1 ∷ differences_from route rest others)

  -- the changes that make the first routes the others
  abbrev pub differences : List (Block × V) → List (Block × V) → List (Change V)
  differences [] others = map (λ other. Insert other.0 other.1) others
  differences (route ∷ routes) others = differences_from route (differences routes) others

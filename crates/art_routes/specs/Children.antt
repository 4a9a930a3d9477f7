-- The walk along the parts of a network with no route between. No public clause cites this.
use Rattle.std.specs.Prelude.{◌≡◌, true, false, List, [], Contains, Option, None, Some, filter}
use Rattle.std.specs.Ordering.{is_ge, is_gt}
use Rattle.art_routes.specs.Networks.{Block, IsNetwork, is_around, network_order}
use Rattle.art_routes.specs.Tables.{behind, is_child}

module _ {V : Type 0} (network : Block) where
  -- those of them that stand behind a network, if there is one
  abbrev pub children_left : Option Block → List (Block × V) → List (Block × V)
  children_left None routes = []
  children_left (Some after) routes = filter (λ route. is_child network routes route.0) (behind after routes)

  -- no route to a part of the network that stands up to here is around one that stands behind
  pub record IsPast (after : Block) (routes : List (Block × V)) : Type 0 where
    pub network_is : IsNetwork network
    pub after_is : IsNetwork after
    pub begun : is_ge (network_order after network) ≡ true
    pub past : (other : Block × V) (part : Block) → Contains routes other → is_around network other.0 ≡ true → is_gt (network_order other.0 after) ≡ false → IsNetwork part → is_gt (network_order part after) ≡ true → is_around other.0 part ≡ false

  abbrev pub IsWalk : Option Block → List (Block × V) → Type 0
  IsWalk None routes = Unit {0}
  IsWalk (Some after) routes = IsPast after routes

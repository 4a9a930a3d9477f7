-- Tables of fewer routes by which each address has the value that it has by another.
use Rattle.std.specs.Prelude.{◌≡◌, ◌⊎◌, ◌<◌, suc, Bool, true, false, List, Contains, None, map}
use Rattle.art_routes.specs.Shrinking.{NeedsNode}
use Rattle.art_routes.specs.declared.address.Address.{Address}
use Rattle.art_routes.specs.Keys.{key_text}
use Rattle.art_routes.specs.Networks.{Block, IsNetwork, covers}
use Rattle.art_routes.specs.Tables.{IsLongest, IsParent, NoneContains, route_value}

-- the two networks are those of one bit more inside the whole, the left one first
pub record AreHalves (left right whole : Block) : Type 0 where
  pub whole_is : IsNetwork whole
  pub left_inside : covers whole left ≡ true
  pub right_inside : covers whole right ≡ true
  pub left_length : left.length ≡ suc whole.length
  pub right_length : right.length ≡ suc whole.length
  pub before : left.address.bits < right.address.bits

module _ {V : Type 0} (eq : V → V → Bool) where
  -- values that are one, or are told to be equal
  abbrev pub AreAlike : V → V → Type 0
  AreAlike a b = (a ≡ b) ⊎ (eq a b ≡ true)

  -- no route of either table contains the address, or the longest ones that do have values that are alike
  abbrev pub MatchAlike : List (Block × V) → List (Block × V) → Address → Type 0
  MatchAlike routes others address =
      (NoneContains routes address × NoneContains others address)
      ⊎ ((route : Block × V) × (other : Block × V) × IsLongest routes address route × IsLongest others address other × AreAlike route.1 other.1)

  -- the route has another value than the longest one around it, and, where it is to the right half of a network, than that
  -- to the left one
  pub record IsNeeded (routes : List (Block × V)) (route : Block × V) : Type 0 where
    pub parent_differs : (parent : Block × V) → IsParent routes route.0 parent → eq route.1 parent.1 ≡ false
    pub half_differs : (left : Block × V) (whole : Block) → Contains routes left → AreHalves left.0 route.0 whole → eq left.1 route.1 ≡ false

  -- that is so of each route
  abbrev pub IsAggregated : List (Block × V) → Type 0
  IsAggregated routes = (route : Block × V) → Contains routes route → IsNeeded routes route

  -- the routes to the halves of a network have one value, and it has no route
  pub record NeedsWhole (routes : List (Block × V)) : Type 0 where
    pub left : Block × V
    pub right : Block × V
    pub whole : Block
    pub left_listed : Contains routes left
    pub right_listed : Contains routes right
    pub are_halves : AreHalves left.0 right.0 whole
    pub same_value : eq left.1 right.1 ≡ true
    pub no_route : route_value routes whole ≡ None

  -- a route has the value of the longest one around it, and its removal needs a node
  pub record NeedsRemoval (H : Type 0) (routes : List (Block × V)) : Type 0 where
    pub route : Block × V
    pub parent : Block × V
    pub listed : Contains routes route
    pub above : IsParent routes route.0 parent
    pub same_value : AreAlike route.1 parent.1
    pub needs_node : NeedsNode H (map (λ route. key_text route.0) routes) (key_text route.0)

  -- what is to be done needs memory
  abbrev pub NeedsMemory : Type 0 → List (Block × V) → Type 0
  NeedsMemory H routes = NeedsWhole routes ⊎ NeedsRemoval H routes

-- The steps by which routes are aggregated. No public clause cites this.
use Rattle.std.specs.Prelude.{◌≡◌, ◌⊎◌, ◌<◌, Bool, true, false, List, Contains, Option, None, Some, length}
use Rattle.art_routes.specs.Aggregates.{AreAlike, AreHalves, IsNeeded}
use Rattle.art_routes.specs.Networks.{Block, IsNetwork}
use Rattle.art_routes.specs.Tables.{IsParent, behind}

-- the left half beside this network and the whole of both, if it is a right half
abbrev pub IsHalf : Block → Option (Block × Block) → Type 0
IsHalf network None = (left whole : Block) → IsNetwork left → AreHalves left network whole → ⊥
IsHalf network (Some (left, whole)) = IsNetwork left × AreHalves left network whole

module _ {V : Type 0} where
  -- the routes behind a network, or all
  abbrev pub left_behind : Option Block → List (Block × V) → List (Block × V)
  left_behind None routes = routes
  left_behind (Some after) routes = behind after routes

  -- there are fewer routes than before, or the same, and this is so of them
  abbrev pub FewerOr : List (Block × V) → List (Block × V) → (List (Block × V) → Type 0) → Type 0
  FewerOr routes fewer Holds = (length fewer < length routes) ⊎ ((fewer ≡ routes) × Holds routes)

module _ {V : Type 0} (eq : V → V → Bool) where
  -- whether the longest route around the network has this value
  abbrev pub SaysOfParent : List (Block × V) → Block → V → Bool → Type 0
  SaysOfParent routes network value true = (parent : Block × V) × IsParent routes network parent × (eq value parent.1 ≡ true)
  SaysOfParent routes network value false = (parent : Block × V) → IsParent routes network parent → eq value parent.1 ≡ false

  -- the left half beside this network, and the whole of both, if it has a route with this value
  abbrev pub SaysOfHalf : List (Block × V) → Block → V → Option (Block × Block) → Type 0
  SaysOfHalf routes network value None = (left : Block × V) (whole : Block) → Contains routes left → AreHalves left.0 network whole → eq left.1 value ≡ false
  SaysOfHalf routes network value (Some (left, whole)) = (other : V) × Contains routes (left, other) × AreHalves left network whole × (eq other value ≡ true)

  -- a route to the network has the value of the longest one around it
  abbrev pub IsCovered : List (Block × V) → Block → Type 0
  IsCovered routes network = (value : V) × (parent : Block × V) × Contains routes (network, value) × IsParent routes network parent × AreAlike eq value parent.1

  -- each route is needed, or stands behind a network
  abbrev pub NeededUpTo : List (Block × V) → Option Block → Type 0
  NeededUpTo routes after = (route : Block × V) → Contains routes route → IsNeeded eq routes route ⊎ Contains (left_behind after routes) route

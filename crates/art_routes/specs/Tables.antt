-- A table as the list of its routes, each a network and its value, in the order of the networks.
use Rattle.std.specs.Prelude.{◌≡◌, ◌≤◌, Bool, true, false, not, ◌&&◌, List, [], ◌∷◌, ◌++◌, All, AllPairs, Contains, Option, Some, None, filter, map, reverse, if◌then◌else◌}
use Rattle.std.specs.Borrow.{Bor}
use Rattle.std.specs.List.{list_any}
use Rattle.std.specs.Ordering.{is_eq, is_ge, is_gt, match_ordering}
use Rattle.std.specs.declared.cmp.Ordering.TheVariants.{Less}
use Rattle.art_routes.specs.declared.address.Address.{Address}
use Rattle.art_routes.specs.Networks.{Block, contains, covers, is_around, network_order}

module _ {V : Type 0} where
  -- a route behind a reference to its value
  abbrev pub route_now : Block × Bor V → Block × V
  route_now (network, value) = (network, value.now)

  -- each network comes before those behind it, so no two are one
  abbrev pub AreInOrder : List (Block × V) → Type 0
  AreInOrder routes = AllPairs (λ a b. network_order a.0 b.0 ≡ Less) routes

  -- the value of the route to this network
  abbrev pub route_value : List (Block × V) → Block → Option V
  route_value [] network = None
  route_value (route ∷ routes) network = if is_eq (network_order route.0 network) then Some route.1 else route_value routes network

  -- the routes with this one before the first to a later network, or in place of the one to its network
  abbrev pub put_route : List (Block × V) → Block → V → List (Block × V)
  put_route [] network value = (network, value) ∷ []
  put_route (other ∷ routes) network value =
      match_ordering (network_order network other.0) ((network, value) ∷ other ∷ routes) ((network, value) ∷ routes) (other ∷ put_route routes network value)

  -- the routes, of which the one to this network has this value
  abbrev pub routes_with_value : List (Block × V) → Block → V → List (Block × V)
  routes_with_value routes network value = map (λ route. (route.0, if is_eq (network_order route.0 network) then value else route.1)) routes

  -- the routes without the one to this network
  abbrev pub without_route : List (Block × V) → Block → List (Block × V)
  without_route routes network = filter (λ route. not (is_eq (network_order route.0 network))) routes

  -- no route contains the address
  abbrev pub NoneContains : List (Block × V) → Address → Type 0
  NoneContains routes address = All (λ route. contains route.0 address ≡ false) routes

  -- this one of the routes contains the address, and no longer one does
  pub record IsLongest (routes : List (Block × V)) (address : Address) (route : Block × V) : Type 0 where
    pub listed : Contains routes route
    pub matches : contains route.0 address ≡ true
    pub longest : All (λ other. contains other.0 address ≡ true → other.0.length ≤ route.0.length) routes

  -- this one of the routes contains the address, and no shorter one does
  pub record IsShortest (routes : List (Block × V)) (address : Address) (route : Block × V) : Type 0 where
    pub listed : Contains routes route
    pub matches : contains route.0 address ≡ true
    pub shortest : All (λ other. contains other.0 address ≡ true → route.0.length ≤ other.0.length) routes

  -- no route covers the network
  abbrev pub NoneCovers : List (Block × V) → Block → Type 0
  NoneCovers routes network = All (λ route. covers route.0 network ≡ false) routes

  -- this one of the routes covers the network, and no longer one does
  pub record IsLongestOver (routes : List (Block × V)) (network : Block) (route : Block × V) : Type 0 where
    pub listed : Contains routes route
    pub matches : covers route.0 network ≡ true
    pub longest : All (λ other. covers other.0 network ≡ true → other.0.length ≤ route.0.length) routes

  -- no route is to a network around this one
  abbrev pub NoneAround : List (Block × V) → Block → Type 0
  NoneAround routes network = All (λ route. is_around route.0 network ≡ false) routes

  -- this one of the routes is to a network around this one, and no longer one is
  pub record IsParent (routes : List (Block × V)) (network : Block) (route : Block × V) : Type 0 where
    pub listed : Contains routes route
    pub around : is_around route.0 network ≡ true
    pub longest : All (λ other. is_around other.0 network ≡ true → other.0.length ≤ route.0.length) routes

  -- the routes to this network and to parts of it, in order
  abbrev pub covered : Block → List (Block × V) → List (Block × V)
  covered network routes = filter (λ route. covers network route.0) routes

  -- the part is one of the network, and no route is to one between
  abbrev pub is_child : Block → List (Block × V) → Block → Bool
  is_child network routes part = is_around network part && not (list_any (λ other. is_around network other.0 && is_around other.0 part) routes)

  -- the routes to parts of this network with none between, in order
  abbrev pub children : Block → List (Block × V) → List (Block × V)
  children network routes = filter (λ route. is_child network routes route.0) routes

  -- the routes to this network and to those around it, the longest first
  abbrev pub covering : Block → List (Block × V) → List (Block × V)
  covering network routes = reverse (filter (λ route. covers route.0 network) routes)

  -- the routes to this network and to those after it, in order
  abbrev pub at_or_after : Block → List (Block × V) → List (Block × V)
  at_or_after network routes = filter (λ route. is_ge (network_order route.0 network)) routes

  -- those to the networks after it
  abbrev pub behind : Block → List (Block × V) → List (Block × V)
  behind network routes = filter (λ route. is_gt (network_order route.0 network)) routes

  -- the routes with each of these put among them in turn, so that of two to one network the later stays
  abbrev pub put_routes : List (Block × V) → List (Block × V) → List (Block × V)
  put_routes routes [] = routes
  put_routes routes (more ∷ others) = put_routes (put_route routes more.0 more.1) others

  -- this is one of the routes, and of those before it, put in turn, none is to its network
  pub record IsFirstToNetwork (routes : List (Block × V)) (route : Block × V) : Type 0 where
    pub before : List (Block × V)
    pub rest : List (Block × V)
    pub listed : routes ≡ before ++ route ∷ rest
    pub no_route : route_value (put_routes [] before) route.0 ≡ None

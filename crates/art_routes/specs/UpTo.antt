-- The routes of a table up to a network.
use Rattle.std.specs.Prelude.{List, filter}
use Rattle.std.specs.Ordering.{is_le, is_lt}
use Rattle.art_routes.specs.Networks.{Block, network_order}

-- the routes to this network and to those before it, in order
abbrev pub at_or_before : {V : Type 0} → Block → List (Block × V) → List (Block × V)
at_or_before network routes = filter (λ route. is_le (network_order route.0 network)) routes

-- those to the networks before it
abbrev pub ahead : {V : Type 0} → Block → List (Block × V) → List (Block × V)
ahead network routes = filter (λ route. is_lt (network_order route.0 network)) routes

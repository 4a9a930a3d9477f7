-- Tables of routes.
use Rattle.std.specs.Prelude.{◌≢◌, ℕ, ◌≤◌, List, AllPairs, length}
use Rattle.program_lines.specs.Lines.{line_at, SayAll, SayLine}
use Rattle.art_routes.specs.Networks.{Block}
use Rattle.routes.specs.declared.route.Route.{Route}
use Rattle.routes.specs.Lines.{without_comments, SayRouteTo, SayRoute}

-- no two routes have one network
abbrev pub AreDistinctRoutes : List (Block × Route) → Type 0
AreDistinctRoutes routes = AllPairs (λ a b. a.0 ≢ b.0) routes

-- each of the lines but for comments is one of these routes, in their order, no two of one network
abbrev pub AreRoutes : List (List ℕ) → List (Block × Route) → Type 0
AreRoutes lines routes = SayAll (SayLine SayRoute) (without_comments lines) routes × AreDistinctRoutes routes

-- the line is a route to a network to which the line of this number, from 1, among those before it, is one too
abbrev pub IsRouteAgain : List (List ℕ) → List ℕ → ℕ → Type 0
IsRouteAgain before line number =
    (1 ≤ number) × (number ≤ length before)
    × ((network : Block) × SayRouteTo (line_at before number) network × SayLine SayRouteTo line network)

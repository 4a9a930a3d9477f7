-- What the private calls say of a table that is read, and of the output. No public clause cites it.
use Rattle.std.specs.Prelude.{◌≡◌, ◌⊎◌, ℕ, List, [], ◌++◌, None, Some}
use Rattle.program_lines.specs.Faults.{IsLineFault}
use Rattle.program_lines.specs.Lines.{line, lines_of, SayLine}
use Rattle.program_lines.specs.declared.line_fault.LineFault.{LineFault}
use Rattle.program_lines.specs.declared.line_fault.LineFault.TheVariants.{Other}
use Rattle.art_routes.specs.Networks.{Block}
use Rattle.art_routes.specs.Tables.{put_route, put_routes, route_value}
use Rattle.routes.specs.declared.fault.Fault.{Fault}
use Rattle.routes.specs.declared.fault.Fault.TheVariants.{SameNetwork}
use Rattle.routes.specs.declared.route.Route.{Route}
use Rattle.routes.specs.declared.route.Query.{Query}
use Rattle.routes.specs.Faults.{IsRouteFault}
use Rattle.routes.specs.Lines.{SayRoute, SayRouteTo}
use Rattle.routes.specs.Replies.{IsRouteReply}
use Rattle.routes.specs.Tables.{AreRoutes}

-- the table is that of the routes of this file
abbrev pub IsRouteTable : List ℕ → List (Block × Route) → Type 0
IsRouteTable file table = (routes : List (Block × Route)) × AreRoutes (lines_of file) routes × (table ≡ put_routes [] routes)

-- a line with the reply to this address is written
abbrev pub AppendsRouteReply : List (Block × Route) → Query → List ℕ → List ℕ → Type 0
AppendsRouteReply table query old new = (text : List ℕ) × IsRouteReply table query text × (new ≡ old ++ line text)

-- the line of this number is a route, which is put into the table, where no route had its network
pub record AddsRoute (number : ℕ) (line : List ℕ) (old new : List (Block × Route)) : Type 0 where
  pub route : Block × Route
  pub said : SayLine SayRoute line route
  pub numbered : route.1.number ≡ number
  pub none_before : route_value old route.0 ≡ None
  pub put : new ≡ put_route old route.0 route.1

-- the line is no route, or has the network of one in the table, and this is its fault
abbrev pub IsNextFault : List ℕ → List (Block × Route) → LineFault Fault → Type 0
IsNextFault line table fault =
    IsLineFault IsRouteFault line fault
    ⊎ ((network : Block) × (earlier : Route) × SayLine SayRouteTo line network × (route_value table network ≡ Some earlier) × (fault ≡ Other (SameNetwork earlier.number)))

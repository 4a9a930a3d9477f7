-- The output for a table and addresses, and which lines are bad.
use Rattle.std.specs.Prelude.{◌≡◌, ◌⊎◌, ℕ, ◌+◌, false, List, [], ◌∷◌, ◌++◌, codes, length}
use Rattle.program_lines.specs.Lines.{line, lines_of, SayLine}
use Rattle.program_lines.specs.Faults.{IsLineFault}
use Rattle.program_lines.specs.declared.failure.BadLine.{BadLine}
use Rattle.program_lines.specs.declared.line_fault.LineFault.{LineFault}
use Rattle.program_lines.specs.declared.line_fault.LineFault.TheVariants.{Other}
use Rattle.program_lines.specs.declared.failure.Source.TheVariants.{File}
use Rattle.art_routes.specs.Networks.{Block, address_of}
use Rattle.art_routes.specs.Tables.{IsLongest, NoneContains, put_routes}
use Rattle.routes.specs.declared.fault.Fault.{Fault}
use Rattle.routes.specs.declared.fault.Fault.TheVariants.{SameNetwork}
use Rattle.routes.specs.declared.route.Route.{Route}
use Rattle.routes.specs.declared.route.Query.{Query}
use Rattle.routes.specs.Faults.{IsRouteFault, IsRouteQueryFault}
use Rattle.routes.specs.Lines.{is_comment, SayRouteQuery}
use Rattle.routes.specs.Tables.{AreRoutes, IsRouteAgain}

-- the reply to an address: it and the line of the longest route that contains it, or it and none
abbrev pub IsRouteReply : List (Block × Route) → Query → List ℕ → Type 0
IsRouteReply table query text =
    ((route : Block × Route) × IsLongest table (address_of query.address) route × (text ≡ query.line.now ++ codes " " ++ route.1.line.now))
    ⊎ (NoneContains table (address_of query.address) × (text ≡ query.line.now ++ codes " none"))

-- a line of the input is an address, and this is the line with the reply to it
abbrev pub HasRouteReply : List ℕ → List ℕ → List ℕ → Type 0
HasRouteReply file text reply =
    (routes : List (Block × Route)) × (query : Query) × (answer : List ℕ) × AreRoutes (lines_of file) routes × SayLine SayRouteQuery text query
    × IsRouteReply (put_routes [] routes) query answer × (reply ≡ line answer)

-- what is wrong with a line after these: it is no route, or it is one to a network of an earlier one
abbrev pub IsFaultAfter : List (List ℕ) → List ℕ → LineFault Fault → Type 0
IsFaultAfter before line fault =
    IsLineFault IsRouteFault line fault ⊎ ((number : ℕ) × IsRouteAgain before line number × (fault ≡ Other (SameNetwork number)))

-- the first line of the table at fault: those before it are a table, and it is no comment, and has this fault
abbrev pub IsFirstBadRoute : List ℕ → BadLine (LineFault Fault) → Type 0
IsFirstBadRoute file bad =
    (bad.source ≡ File)
    × ((before after : List (List ℕ)) × (line : List ℕ) × (routes : List (Block × Route)) × (lines_of file ≡ before ++ line ∷ after)
    × (bad.number ≡ length before + 1) × AreRoutes before routes × (is_comment line ≡ false) × IsFaultAfter before line bad.fault)

-- a line of the input is no address, and this is its fault
abbrev pub HasRouteFault : List ℕ → LineFault Fault → Type 0
HasRouteFault text fault = ((query : Query) → ¬ SayLine SayRouteQuery text query) × IsLineFault IsRouteQueryFault text fault

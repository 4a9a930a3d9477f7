-- What the lines of the table and of the input say.
use Rattle.std.specs.Prelude.{◌≡◌, ℕ, ◌≢◌, ◌==◌, Bool, true, not, List, [], ◌∷◌, filter}
use Rattle.std.specs.Net.Grammar.{IsIpText}
use Rattle.program_lines.specs.Lines.{IsCutAt}
use Rattle.art_routes.specs.Networks.{Block}
use Rattle.art_routes.specs.Texts.{SayNetwork}
use Rattle.routes.specs.declared.route.Route.{Route}
use Rattle.routes.specs.declared.route.Query.{Query}

-- a line of the table is a comment where it is empty or begins with `#`
abbrev pub is_comment : List ℕ → Bool
is_comment [] = true
is_comment (byte ∷ bytes) = byte == 35

-- the lines that are no comments
abbrev pub without_comments : List (List ℕ) → List (List ℕ)
without_comments lines = filter (λ line. not (is_comment line)) lines

-- the line is a route to this network: the network and, after the first space, a next hop
abbrev pub SayRouteTo : List ℕ → Block → Type 0
SayRouteTo line network =
    (text next_hop : List ℕ) × IsCutAt 32 line text next_hop × (next_hop ≢ []) × SayNetwork text network

-- the line is this route
abbrev pub SayRoute : List ℕ → Block × Route → Type 0
SayRoute line route = (route.1.line.now ≡ line) × SayRouteTo line route.0

-- a line of the input is an address
abbrev pub SayRouteQuery : List ℕ → Query → Type 0
SayRouteQuery line query = (query.line.now ≡ line) × IsIpText line query.address

-- Routes that are removed together: those inside a network.
use Rattle.std.specs.Prelude.{◌≡◌, not, List, ◌∷◌, ◌++◌, filter}
use Rattle.art_routes.specs.Networks.{Block, covers}
use Rattle.art_routes.specs.Tables.{covered}

module _ {V : Type 0} where
  -- the routes but those to this network and to parts of it
  abbrev pub without_covered : Block → List (Block × V) → List (Block × V)
  without_covered network routes = filter (λ route. not (covers network route.0)) routes

  -- of the routes to this network and to parts of it the first are gone, up to one whose removal needs a node; it stays, as
  -- do those behind it, and all others
  pub record LosesFirstCovered (network : Block) (needs_node : Block → Type 0) (old new : List (Block × V)) : Type 0 where
    pub gone : List (Block × V)
    pub refused : Block × V
    pub rest : List (Block × V)
    pub first : covered network old ≡ gone ++ refused ∷ rest
    pub left : covered network new ≡ refused ∷ rest
    pub needs : needs_node refused.0
    pub others : without_covered network new ≡ without_covered network old

-- The first network of which two lists of routes in order differ.
use Rattle.std.specs.Prelude.{◌≡◌, ◌≢◌, ℕ, List, [], ◌∷◌, ◌++◌, Option, Some, None}
use Rattle.std.specs.declared.cmp.Ordering.TheVariants.{Greater}
use Rattle.art_routes.specs.Networks.{Block, network_order}

-- the first of these routes, if there is one, is to a network after this one
abbrev pub BeginLater : Block → List (Block × ℕ) → Type 0
BeginLater network [] = Unit {0}
BeginLater network (route ∷ routes) = network_order route.0 network ≡ Greater

-- the first of these routes is to this network and has this value, or where there is no value it is to a later one
abbrev pub BeginAt : Block → Option ℕ → List (Block × ℕ) → Type 0
BeginAt network None routes = BeginLater network routes
BeginAt network (Some value) routes = (rest : List (Block × ℕ)) × (routes ≡ (network, value) ∷ rest)

-- both begin with the same routes, and behind these is the network, of which they have values that differ, or one of them
-- has none
pub record IsFirstDifference (old new : List (Block × ℕ)) (network : Block) (before after : Option ℕ) : Type 0 where
  pub same : List (Block × ℕ)
  pub old_rest : List (Block × ℕ)
  pub new_rest : List (Block × ℕ)
  pub old_is : old ≡ same ++ old_rest
  pub new_is : new ≡ same ++ new_rest
  pub old_next : BeginAt network before old_rest
  pub new_next : BeginAt network after new_rest
  pub differ : before ≢ after

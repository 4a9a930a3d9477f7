-- When a call is refused.
use Rattle.std.specs.Prelude.{◌≡◌, true, false, ℕ, List, ◌∷◌, ◌++◌}
use Rattle.art_routes.specs.Networks.{Block}
use Rattle.art_routes.specs.Removing.{without_covered}
use Rattle.art_routes.specs.Tables.{covered}
use Rattle.art_c_routes.specs.Addresses.{is_network}
use Rattle.art_c_routes.specs.declared.refusal.Refusal.{Refusal}
use Rattle.art_c_routes.specs.declared.refusal.Refusal.TheVariants.{BadNetwork, OutOfMemory}

-- the refusal is due to these bytes and this length where they are no network, and else to memory
abbrev pub IsRouteRefused : List ℕ → ℕ → Refusal → Type 0
IsRouteRefused bytes count BadNetwork = is_network bytes count ≡ false
IsRouteRefused bytes count OutOfMemory = is_network bytes count ≡ true

-- of the routes to this network and to parts of it the first are gone, up to one that stays, as do those behind it, and
-- all others
pub record StopsRemoving (network : Block) (old new : List (Block × ℕ)) : Type 0 where
  pub gone : List (Block × ℕ)
  pub refused : Block × ℕ
  pub rest : List (Block × ℕ)
  pub first : covered network old ≡ gone ++ refused ∷ rest
  pub left : covered network new ≡ refused ∷ rest
  pub others : without_covered network new ≡ without_covered network old

-- A table that is read with a number of node visits that is counted.
use Rattle.std.specs.Prelude.{ℕ, ◌+◌, ◌/◌, List}
use Rattle.art_routes.specs.Networks.{Block}

-- the routes, and how many more node visits are allowed
pub record Reading (V : Type 0) : Type 0 where
  pub routes : List (Block × V)
  pub budget : ℕ

-- how many nodes a search over so many bits visits at most, one more than their key has bytes: one for the family, one for
-- each seven bits, and one for the rest. They are 7 for an IPv4 address, and 21 for an IPv6 one
abbrev pub most_visits : ℕ → ℕ
most_visits bits = bits / 7 + 3

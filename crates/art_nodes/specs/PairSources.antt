-- Bounds on bytes, as numbers. No public clause cites these words.
use Rattle.std.specs.Prelude.{◌+◌, ℕ}
use Rattle.std.specs.declared.ops.Bound.{Bound}
use Rattle.std.specs.declared.ops.Bound.TheVariants.{Included, Excluded, Unbounded}

-- the least number that meets the start
abbrev pub first_byte : Bound ℕ → ℕ
first_byte (Included n) = n
first_byte (Excluded n) = n + 1
first_byte Unbounded = 0

-- one more than the greatest byte that meets the end
abbrev pub end_byte : Bound ℕ → ℕ
end_byte (Included n) = n + 1
end_byte (Excluded n) = n
end_byte Unbounded = 256

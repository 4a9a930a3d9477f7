-- The places of a table of indices, in one byte each. No public clause cites these words.
use Rattle.std.specs.Prelude.{ℕ, Option, Some, None, nat_lt, if◌then◌else◌}

-- the index with this number; 255 is none
abbrev pub index_of : ℕ → Option ℕ
index_of number = if nat_lt number 255 then Some number else None

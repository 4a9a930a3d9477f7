-- The version of the library, as the header names it.
use Rattle.std.specs.Prelude.{ℕ}

-- 0.2.0: 10,000 for each major version, 100 for each minor one
abbrev pub ART_VERSION : ℕ
ART_VERSION = 200

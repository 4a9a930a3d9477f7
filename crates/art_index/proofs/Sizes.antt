-- Sizes in memory, which calls ask for.
use Rattle.std.proofs.Common.{◌<◌, ◌^◌, lit<}

-- of a pointer to a leaf
pub leaf-pointer-fits : 8 < 2 ^ 63
leaf-pointer-fits = lit< tt

-- of a slice
pub slice-fits : 16 < 2 ^ 63
slice-fits = lit< tt

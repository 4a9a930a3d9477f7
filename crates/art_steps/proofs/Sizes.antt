-- The sizes in memory of a pointer to a leaf, of a slice, of a spot, of what a load prepares, and of a place with a root.
use Rattle.std.proofs.Common.{◌^◌, ◌<◌, lit<}

pub leaf-pointer-fits : 8 < 2 ^ 63
leaf-pointer-fits = lit< tt

pub slice-fits : 16 < 2 ^ 63
slice-fits = lit< tt

pub spot-fits : 56 < 2 ^ 63
spot-fits = lit< tt

pub prepared-fits : 72 < 2 ^ 63
prepared-fits = lit< tt

pub place-fits : 80 < 2 ^ 63
place-fits = lit< tt

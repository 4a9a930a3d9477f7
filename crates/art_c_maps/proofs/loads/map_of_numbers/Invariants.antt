use Rattle.std.proofs.Common.{◌≡◌, take}
use Rattle.std.specs.List.{zip}
use Rattle.art_c_maps.proofs.loads.map_of_numbers.Given as goal

-- the first entries are in
abbrev pub invariant-loop-index : goal.invariant-loop-index
invariant-loop-index l = l.loaded ≡ take l.index (zip l.keys l.values)

use Rattle.std.proofs.Common.{◌≡◌, ◌++◌, drop, take}
use Rattle.std.specs.List.{zip}
use Rattle.std.specs.Ordering.{nat_cmp}
use Rattle.art_c_maps.specs.Entries.{value_of}
use Rattle.art_c_maps.specs.Many.{are_found, found_values}
use Rattle.art_c_maps.proofs.number_map.NumberMap.get_many.Given as goal

-- the first answers are written, and the rest is as it was
abbrev pub invariant-loop-index : goal.invariant-loop-index
invariant-loop-index l = record {
  found : l.found ≡ take l.index (are_found (value_of nat_cmp l.self) l.keys) ++ drop l.index l.fn.found;
  values : l.values ≡ take l.index (found_values (value_of nat_cmp l.self) (zip l.keys l.fn.values)) ++ drop l.index l.fn.values;
}

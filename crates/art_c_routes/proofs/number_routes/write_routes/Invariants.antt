use Rattle.std.proofs.Common.{◌≡◌, ◌≤◌, ◌++◌, drop, length, take}
use Rattle.art_c_maps.specs.Entries.{values_of}
use Rattle.art_c_routes.specs.Found.{lengths_of}
use Rattle.art_c_routes.proofs.number_routes.write_routes.Given as goal

-- the first routes are written, and the others are left
abbrev pub invariant-loop-index : goal.invariant-loop-index
invariant-loop-index l = record {
  left : l.routes ≡ drop l.index l.fn.routes;
  enough : l.index ≤ length l.fn.routes;
  lengths : l.lengths ≡ take l.index (lengths_of l.fn.routes) ++ drop l.index l.fn.lengths;
  values : l.values ≡ take l.index (values_of l.fn.routes) ++ drop l.index l.fn.values;
}

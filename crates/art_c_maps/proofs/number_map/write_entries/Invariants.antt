use Rattle.std.proofs.Common.{◌≡◌, ◌≤◌, ◌++◌, drop, length, take}
use Rattle.art_c_maps.specs.Batch.{toward}
use Rattle.art_c_maps.specs.Entries.{keys_of, values_of}
use Rattle.art_c_maps.proofs.number_map.write_entries.Given as goal

-- the first entries are written, and the others are left
abbrev pub invariant-loop-index : goal.invariant-loop-index
invariant-loop-index l = let all = toward l.fn.backward l.fn.entries in record {
  left : toward l.fn.backward l.entries ≡ drop l.index all;
  enough : l.index ≤ length all;
  keys : l.keys ≡ take l.index (keys_of all) ++ drop l.index l.fn.keys;
  values : l.values ≡ take l.index (values_of all) ++ drop l.index l.fn.values;
}

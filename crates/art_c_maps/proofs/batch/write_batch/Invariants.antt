use Rattle.std.proofs.Common.{◌≡◌, ◌≤◌, ◌++◌, drop, length, min, take}
use Rattle.art_c_maps.specs.Batch.{ends_of, joined_keys, toward}
use Rattle.art_c_maps.specs.Entries.{entries_in_bytes, keys_of, values_of}
use Rattle.art_c_maps.proofs.BatchLemmas.{FitsSoFar}
use Rattle.art_c_maps.proofs.batch.write_batch.Given as goal

-- the first entries are written, they all fit, and the others are left
abbrev pub invariant-loop-index : goal.invariant-loop-index
invariant-loop-index l = let all = toward l.fn.backward (entries_in_bytes l.fn.entries) in record {
  left : toward l.fn.backward (entries_in_bytes l.entries) ≡ drop l.index all;
  enough : l.index ≤ length all;
  at : l.at ≡ length (joined_keys (take l.index (keys_of all)));
  within : l.at ≤ length l.fn.keys;
  fits : FitsSoFar all (min (length l.fn.ends) (length l.fn.values)) (length l.fn.keys) l.index l.at;
  keys : l.keys ≡ joined_keys (take l.index (keys_of all)) ++ drop l.at l.fn.keys;
  ends : l.ends ≡ take l.index (ends_of all) ++ drop l.index l.fn.ends;
  values : l.values ≡ take l.index (values_of all) ++ drop l.index l.fn.values;
}

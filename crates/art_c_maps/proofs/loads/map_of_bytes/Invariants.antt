use Rattle.std.proofs.Common.{◌≡◌, drop, take}
use Rattle.std.specs.List.{zip}
use Rattle.art_c_maps.specs.Entries.{entries_in_bytes}
use Rattle.art_c_maps.specs.Many.{cut, cut_from}
use Rattle.art_c_maps.proofs.loads.map_of_bytes.Given as goal

-- the first entries are in, and the next key begins at the start
abbrev pub invariant-loop-index : goal.invariant-loop-index
invariant-loop-index l = let all = cut l.keys l.ends in record {
  left : cut_from l.start l.keys (drop l.index l.ends) ≡ drop l.index all;
  entries : entries_in_bytes l.loaded ≡ take l.index (zip all l.values);
}

use Rattle.std.proofs.Common.{◌≡◌, ◌++◌, drop, take}
use Rattle.std.specs.List.{zip}
use Rattle.art_bytes.specs.Text.{text_order}
use Rattle.art_c_maps.specs.Entries.{value_of}
use Rattle.art_c_maps.specs.Many.{are_found, cut, cut_from, found_values}
use Rattle.art_c_maps.proofs.bytes_map.BytesMap.get_many.Given as goal

-- the first answers are written, and the next key begins at the start
abbrev pub invariant-loop-index : goal.invariant-loop-index
invariant-loop-index l = let all = cut l.keys l.ends in record {
  left : cut_from l.start l.keys (drop l.index l.ends) ≡ drop l.index all;
  found : l.found ≡ take l.index (are_found (value_of text_order l.self) all) ++ drop l.index l.fn.found;
  values : l.values ≡ take l.index (found_values (value_of text_order l.self) (zip all l.fn.values)) ++ drop l.index l.fn.values;
}

use Rattle.std.proofs.Common.{◌≡◌, drop, take}
use Rattle.std.specs.List.{zip}
use Rattle.art_bytes.specs.Text.{text_order}
use Rattle.art_c_maps.specs.Entries.{put_each}
use Rattle.art_c_maps.specs.Many.{cut, cut_from}
use Rattle.art_c_maps.proofs.bytes_map.BytesMap.insert_many.Given as goal

-- the first entries are put, and the next key begins at the start
abbrev pub invariant-loop-index : goal.invariant-loop-index
invariant-loop-index l = let all = cut l.keys l.ends in record {
  left : cut_from l.start l.keys (drop l.index l.ends) ≡ drop l.index all;
  entries : l.self ≡ put_each text_order l.fn.self (take l.index (zip all l.values));
}

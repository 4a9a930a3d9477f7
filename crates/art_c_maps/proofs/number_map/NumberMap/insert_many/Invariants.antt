use Rattle.std.proofs.Common.{◌≡◌, take}
use Rattle.std.specs.List.{zip}
use Rattle.std.specs.Ordering.{nat_cmp}
use Rattle.art_c_maps.specs.Entries.{put_each}
use Rattle.art_c_maps.proofs.number_map.NumberMap.insert_many.Given as goal

-- the first entries are put
abbrev pub invariant-loop-index : goal.invariant-loop-index
invariant-loop-index l = l.self ≡ put_each nat_cmp l.fn.self (take l.index (zip l.keys l.values))

use Rattle.std.proofs.Common.{◌≡◌, drop, take}
use Rattle.art_c_maps.specs.Loads.{NoneTooLong}
use Rattle.art_c_maps.specs.Many.{cut, cut_from}
use Rattle.art_c_maps.proofs.loads.some_too_long.Given as goal

-- none of the first keys is too long, and the next one begins at the start
abbrev pub invariant-loop-index : goal.invariant-loop-index
invariant-loop-index l = let all = cut l.keys l.ends in record {
  left : cut_from l.start l.keys (drop l.index l.ends) ≡ drop l.index all;
  none : NoneTooLong (take l.index all);
}

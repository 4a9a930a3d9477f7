use Rattle.std.proofs.Common.{◌≡◌, drop}
use Rattle.art_bytes.specs.Text.{text_order}
use Rattle.art_c_maps.specs.Loads.{ascend}
use Rattle.art_c_maps.specs.Many.{cut, cut_from}
use Rattle.art_c_maps.proofs.loads.keys_ascend.Given as goal

-- the keys ascend if those do that are left, of which the first begins at the start
abbrev pub invariant-loop-index : goal.invariant-loop-index
invariant-loop-index l = let all = cut l.keys l.ends in record {
  left : cut_from l.start l.keys (drop l.index l.ends) ≡ drop l.index all;
  ascend : ascend text_order all ≡ ascend text_order (drop l.index all);
}

use Rattle.std.proofs.Common.{◌≡◌, drop}
use Rattle.art_c_maps.specs.Entries.{entries_in_bytes}
use Rattle.art_c_maps.specs.Lent.{IsLent}
use Rattle.art_c_maps.proofs.LendLemmas.{Filled}
use Rattle.art_c_maps.proofs.lending.lend_entries.Given as goal

-- the first entries are lent, and the others are left
abbrev pub invariant-loop-index : goal.invariant-loop-index
invariant-loop-index l = let all = entries_in_bytes l.fn.entries in record {
  left : entries_in_bytes l.entries ≡ drop l.index all;
  filled : Filled (IsLent l.fn.loan.life) all l.fn.out l.out l.index;
}

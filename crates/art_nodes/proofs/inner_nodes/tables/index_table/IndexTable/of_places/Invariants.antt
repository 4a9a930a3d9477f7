use Rattle.std.proofs.Common.{◌≡◌, length, take}
use Rattle.std.specs.List.{range_with_len, zip}
use Rattle.art_nodes.specs.ChildMap.{table_children}
use Rattle.art_nodes.proofs.inner_nodes.tables.index_table.IndexTable.of_places.Given as goal

-- the bytes so far have their places
abbrev pub invariant-loop-place : goal.invariant-loop-place
invariant-loop-place l = record {
  all_bytes : length l.table ≡ 256;
  pairs : table_children 0 l.table ≡ zip (take l.place l.bytes) (range_with_len 0 l.place);
}

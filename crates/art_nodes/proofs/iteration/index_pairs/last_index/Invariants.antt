use Rattle.std.proofs.Common.{◌≡◌, ℕ, take, map}
use Rattle.art_nodes.specs.ChildMap.{table_children}
use Rattle.art_nodes.specs.IndexTable.{index_of}
use Rattle.art_nodes.proofs.iteration.index_pairs.last_index.Given as goal

-- the places from the counter on have no index
abbrev pub invariant-loop-place : goal.invariant-loop-place
invariant-loop-place l =
    (byte : ℕ) → table_children byte (map index_of l.places) ≡ table_children byte (map index_of (take l.place l.places))

-- The children that a builder has written. No public clause cites these words.
use Rattle.std.specs.Prelude.{ℕ, length}
use Rattle.art_nodes.specs.ChildMap.{ChildMap, IsAscending, key_bytes}

-- as many as the builder's state allows, by ascending byte
pub record AreWritten {H : Type 0} (Counts : ℕ → Type 0) (children : ChildMap H) : Type 0 where
  pub counted : Counts (length children)
  pub ascending : IsAscending (key_bytes children)

-- The place of a byte among ascending bytes. No public clause cites these words.
use Rattle.std.specs.Prelude.{◌≡◌, ℕ, ◌<◌, ◌≤◌, List, length, slice_index}

-- the byte is at this place
pub record IsByteAt (bytes : List ℕ) (byte place : ℕ) : Type 0 where
  pub in_range : place < length bytes
  pub same : slice_index bytes place ≡ byte

-- the place to insert the byte at: smaller bytes are before it, and greater ones from it on
pub record IsGapFor (bytes : List ℕ) (byte place : ℕ) : Type 0 where
  pub in_range : place ≤ length bytes
  pub smaller_before : (k : ℕ) → k < place → slice_index bytes k < byte
  pub greater_after : (k : ℕ) → place ≤ k → k < length bytes → byte < slice_index bytes k

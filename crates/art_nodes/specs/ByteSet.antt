-- Sets of bytes, as words of 64 bits. A public clause cites `has_byte` only.
use Rattle.std.specs.Prelude.{◌≡◌, ℕ, ◌<◌, ◌≤◌, ◌/◌, ◌%◌, ◌==◌, Bool, false, if◌then◌else◌, List, [], ◌∷◌, suc, slice_index_or, Option, Some, None}
use Rattle.std.specs.Int.{bit_at}

-- no bit is set from the first on, below the end
abbrev pub HasNoBit : ℕ → ℕ → ℕ → Type 0
HasNoBit word first end = (bit : ℕ) → first ≤ bit → bit < end → bit_at word bit ≡ 0

-- the byte's bit is set
abbrev pub has_byte : List ℕ → ℕ → Bool
has_byte words byte = bit_at (slice_index_or words (byte / 64) 0) (byte % 64) == 1

-- no byte's bit is set from the first on, below the end
abbrev pub HasNoByte : List ℕ → ℕ → ℕ → Type 0
HasNoByte words first end = (byte : ℕ) → first ≤ byte → byte < end → has_byte words byte ≡ false

-- each child where its byte is marked, and `None` elsewhere; the first child is that of `byte`
abbrev pub marked_places : {H : Type 0} → (ℕ → Bool) → ℕ → List H → List (Option H)
marked_places is_marked byte [] = []
marked_places is_marked byte (child ∷ children) = (if is_marked byte then Some child else None) ∷ marked_places is_marked (suc byte) children

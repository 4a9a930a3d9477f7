-- Bits of floats at their places in the order.
use Rattle.std.proofs.Common.{◌≡◌, ℕ, ◌-◌, ◌*◌, ◌<◌, ◌≤◌, Bool, true, false, cond, T, refl, arith}
use lib.Dec.{ltb, ltb→lt, lt→ltb}
use lib.Ieee.{Format, top}
use Rattle.art_keys.specs.Floats.{bits_at}

first : (test : Bool) (x y : ℕ) → T test → cond test x y ≡ x
first true x y is = refl
first false x y is = absurd is

second : (test : Bool) (x y : ℕ) → (T test → ⊥) → cond test x y ≡ y
second true x y never = absurd (never tt)
second false x y never = refl

-- below the middle are the bits of floats with a sign
pub bits_below : (format : Format) (rank : ℕ) → rank < top format → bits_at format rank ≡ 2 * top format - 1 - rank
bits_below format rank below = first (ltb rank (top format)) (2 * top format - 1 - rank) (rank - top format) (lt→ltb rank (top format) below)

pub bits_above : (format : Format) (rank : ℕ) → top format ≤ rank → bits_at format rank ≡ rank - top format
bits_above format rank above =
    second (ltb rank (top format)) (2 * top format - 1 - rank) (rank - top format) (λ is. let below : rank < top format = ltb→lt rank (top format) is in omega arith)

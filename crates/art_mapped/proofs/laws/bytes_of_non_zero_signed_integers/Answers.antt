use Rattle.std.proofs.Common.{◌<◌, pos, refl, arith, rules}
use Rattle.std.specs.Prelude.{unsigned_abs, replicate, ◌∷◌}
use Rattle.std.specs.Int.NonZero.{non_zero_i8_get, non_zero_i16_get, non_zero_i32_get, non_zero_i64_get, non_zero_i128_get, non_zero_isize_get}
use Rattle.std.proofs.lemmas.Int.{ints}
use Rattle.art_mapped.specs.NumberLaws.{signed_keep}
use Rattle.art_mapped.proofs.Values.{non_zero_value, some_or_zero_signed, signed_value}
use Rattle.art_mapped.proofs.laws.bytes_of_non_zero_signed_integers.Goals as goal

pub returns-clause-i8 : goal.returns-clause-i8
returns-clause-i8 c = λ bytes is.
    non_zero_value (signed_keep 1 (search rules)) (pos 0) (λ z. 0 < unsigned_abs z) non_zero_i8_get (λ n. n.ok) (λ value ok. record { value = value; ok = ok }) (λ _ _. refl)
    some_or_zero_signed (λ some. omega arith) (omega (arith, ints), omega (arith, ints)) (128 ∷ replicate 0 0) refl bytes (signed_value 1 bytes (omega arith) is)

pub returns-clause-i16 : goal.returns-clause-i16
returns-clause-i16 c = λ bytes is.
    non_zero_value (signed_keep 2 (search rules)) (pos 0) (λ z. 0 < unsigned_abs z) non_zero_i16_get (λ n. n.ok) (λ value ok. record { value = value; ok = ok }) (λ _ _. refl)
    some_or_zero_signed (λ some. omega arith) (omega (arith, ints), omega (arith, ints)) (128 ∷ replicate 1 0) refl bytes (signed_value 2 bytes (omega arith) is)

pub returns-clause-i32 : goal.returns-clause-i32
returns-clause-i32 c = λ bytes is.
    non_zero_value (signed_keep 4 (search rules)) (pos 0) (λ z. 0 < unsigned_abs z) non_zero_i32_get (λ n. n.ok) (λ value ok. record { value = value; ok = ok }) (λ _ _. refl)
    some_or_zero_signed (λ some. omega arith) (omega (arith, ints), omega (arith, ints)) (128 ∷ replicate 3 0) refl bytes (signed_value 4 bytes (omega arith) is)

pub returns-clause-i64 : goal.returns-clause-i64
returns-clause-i64 c = λ bytes is.
    non_zero_value (signed_keep 8 (search rules)) (pos 0) (λ z. 0 < unsigned_abs z) non_zero_i64_get (λ n. n.ok) (λ value ok. record { value = value; ok = ok }) (λ _ _. refl)
    some_or_zero_signed (λ some. omega arith) (omega (arith, ints), omega (arith, ints)) (128 ∷ replicate 7 0) refl bytes (signed_value 8 bytes (omega arith) is)

pub returns-clause-i128 : goal.returns-clause-i128
returns-clause-i128 c = λ bytes is.
    non_zero_value (signed_keep 16 (search rules)) (pos 0) (λ z. 0 < unsigned_abs z) non_zero_i128_get (λ n. n.ok) (λ value ok. record { value = value; ok = ok }) (λ _ _. refl)
    some_or_zero_signed (λ some. omega arith) (omega (arith, ints), omega (arith, ints)) (128 ∷ replicate 15 0) refl bytes (signed_value 16 bytes (omega arith) is)

pub returns-clause-isize : goal.returns-clause-isize
returns-clause-isize c = λ bytes is.
    non_zero_value (signed_keep 8 (search rules)) (pos 0) (λ z. 0 < unsigned_abs z) non_zero_isize_get (λ n. n.ok) (λ value ok. record { value = value; ok = ok }) (λ _ _. refl)
    some_or_zero_signed (λ some. omega arith) (omega (arith, ints), omega (arith, ints)) (128 ∷ replicate 7 0) refl bytes (signed_value 8 bytes (omega arith) is)

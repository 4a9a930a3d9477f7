use Rattle.std.specs.Prelude.{replicate}
use Rattle.std.proofs.Common.{◌<◌, refl, arith, rules}
use Rattle.std.specs.Int.NonZero.{non_zero_u8_get, non_zero_u16_get, non_zero_u32_get, non_zero_u64_get, non_zero_u128_get, non_zero_usize_get}
use Rattle.art_mapped.specs.NumberLaws.{unsigned_keep}
use Rattle.art_mapped.proofs.Values.{non_zero_value, some_or_zero, unsigned_value}
use Rattle.art_mapped.proofs.laws.bytes_of_non_zero_unsigned_integers.Goals as goal

pub returns-clause-u8 : goal.returns-clause-u8
returns-clause-u8 c = λ bytes is.
    non_zero_value (unsigned_keep 1 (search rules)) 0 (λ n. 0 < n) non_zero_u8_get (λ n. n.ok) (λ value ok. record { value = value; ok = ok }) (λ _ _. refl)
    some_or_zero (λ some. omega arith) (omega arith) (replicate 1 0) refl bytes (unsigned_value 1 bytes is)

pub returns-clause-u16 : goal.returns-clause-u16
returns-clause-u16 c = λ bytes is.
    non_zero_value (unsigned_keep 2 (search rules)) 0 (λ n. 0 < n) non_zero_u16_get (λ n. n.ok) (λ value ok. record { value = value; ok = ok }) (λ _ _. refl)
    some_or_zero (λ some. omega arith) (omega arith) (replicate 2 0) refl bytes (unsigned_value 2 bytes is)

pub returns-clause-u32 : goal.returns-clause-u32
returns-clause-u32 c = λ bytes is.
    non_zero_value (unsigned_keep 4 (search rules)) 0 (λ n. 0 < n) non_zero_u32_get (λ n. n.ok) (λ value ok. record { value = value; ok = ok }) (λ _ _. refl)
    some_or_zero (λ some. omega arith) (omega arith) (replicate 4 0) refl bytes (unsigned_value 4 bytes is)

pub returns-clause-u64 : goal.returns-clause-u64
returns-clause-u64 c = λ bytes is.
    non_zero_value (unsigned_keep 8 (search rules)) 0 (λ n. 0 < n) non_zero_u64_get (λ n. n.ok) (λ value ok. record { value = value; ok = ok }) (λ _ _. refl)
    some_or_zero (λ some. omega arith) (omega arith) (replicate 8 0) refl bytes (unsigned_value 8 bytes is)

pub returns-clause-u128 : goal.returns-clause-u128
returns-clause-u128 c = λ bytes is.
    non_zero_value (unsigned_keep 16 (search rules)) 0 (λ n. 0 < n) non_zero_u128_get (λ n. n.ok) (λ value ok. record { value = value; ok = ok }) (λ _ _. refl)
    some_or_zero (λ some. omega arith) (omega arith) (replicate 16 0) refl bytes (unsigned_value 16 bytes is)

pub returns-clause-usize : goal.returns-clause-usize
returns-clause-usize c = λ bytes is.
    non_zero_value (unsigned_keep 8 (search rules)) 0 (λ n. 0 < n) non_zero_usize_get (λ n. n.ok) (λ value ok. record { value = value; ok = ok }) (λ _ _. refl)
    some_or_zero (λ some. omega arith) (omega arith) (replicate 8 0) refl bytes (unsigned_value 8 bytes is)

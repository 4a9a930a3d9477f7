-- Numbers in decimal digits, and the results of `parse`.
use Rattle.std.proofs.Common.{◌≡◌, ℕ, suc, ◌<◌, ◌^◌, List, ◌∷◌, length, arith, ◌∙◌, ap}
use Rattle.std.specs.Prelude.{All, Result, Ok, Err, IfNone}
use Rattle.std.specs.Result.{result_ok}
use Rattle.std.proofs.lemmas.List.Elements.{All-nil, All-head, All-cons}
use Rattle.std.specs.Int.{IsInRange}
use Rattle.std.specs.Str.{IsUtf8}
use Rattle.std.specs.Str.Parse.{digits_value, ParsesUnsigned}
use Rattle.std.proofs.lemmas.Str.{IsUtf8-from_ascii}
use Rattle.std.proofs.lemmas.Fmt.{IsAscii-from_digits}
use Rattle.std.proofs.lemmas.Str.Parse.{IsNumeralModel, IsDigitsTest, numerals_by_value, parse_gives, digits_value_short}
use Rattle.program_lines.specs.Numbers.{IsNumber}

digits_test : IsDigitsTest (All (IsInRange 48 57))
digits_test = record {
  empty = All-nil (IsInRange 48 57);
  parts = λ c cs all. (All-head (IsInRange 48 57) c cs all, λ k d below. let after : suc k < length (c ∷ cs) = omega arith in all (suc k) d after);
  more = λ c cs first others. All-cons (IsInRange 48 57) c cs first others;
}

own : IsNumeralModel (All (IsInRange 48 57)) (digits_value 10)
own = numerals_by_value (All (IsInRange 48 57)) digits_test

-- a number is text
pub number_is_text : (word : List ℕ) (n : ℕ) → IsNumber word n → IsUtf8 word
number_is_text word n is = IsUtf8-from_ascii word (IsAscii-from_digits word (own.to word is.digits))

-- and `parse` reads it
pub number_is_read : {E : Type 0} (word : List ℕ) (n : ℕ) (r : Result ℕ E) → ParsesUnsigned 64 10 word r → IsNumber word n → r ≡ Ok n
number_is_read word n r h is =
    let short : digits_value 10 word < 10 ^ 10 = digits_value_short own word 10 is.digits is.has_room in
    let fits : digits_value 10 word < 2 ^ 64 = omega arith in
    parse_gives own 64 word r h is.digits is.has_digit fits ∙ ap (λ v. Ok v) is.value

-- what is not read is no number
pub refused_number : {E : Type 0} (word : List ℕ) (r : Result ℕ E) → ParsesUnsigned 64 10 word r → IfNone (result_ok r) ((n : ℕ) → IsNumber word n → ⊥)
refused_number word (Ok n) told = tt
refused_number word (Err e) told = λ n is. let read : Err e ≡ Ok n = number_is_read word n (Err e) told is in cc

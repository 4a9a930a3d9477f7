-- The texts of times and addresses.
use Rattle.std.proofs.Common.{◌≡◌, ℕ, zero, suc, ◌<◌, ◌==◌, Bool, true, false, cond, List, [], ◌∷◌, drop, refl, sym, subst, arith, ℤ}
use Rattle.std.specs.Prelude.{FitsSigned, Err}
use Rattle.std.specs.Int.{w64}
use Rattle.std.specs.Str.{IsAscii, IsUtf8}
use Rattle.std.specs.Str.Parse.{AllDigits, IsNumeral, ParsesSigned, without_leading_sign}
use Rattle.std.proofs.lemmas.Str.{IsUtf8-from_ascii}
use Rattle.std.proofs.lemmas.Fmt.{IsAscii-from_digits}
use Rattle.index.specs.Fields.{IsTime}

more_ascii : (c : ℕ) (cs : List ℕ) → c < 128 → IsAscii cs → IsAscii (c ∷ cs)
more_ascii c cs small rest zero = small
more_ascii c cs small rest (suc i) = rest i

signed_ascii : (c : ℕ) (cs : List ℕ) (minus plus : Bool) → (c == 45) ≡ minus → (c == 43) ≡ plus → AllDigits 10 (cond minus (drop 1 (c ∷ cs)) (drop (cond plus 1 0) (c ∷ cs))) → IsAscii (c ∷ cs)
signed_ascii c cs true plus is other digits = more_ascii c cs (grind (arith, is)) (IsAscii-from_digits cs digits)
signed_ascii c cs false true other is digits = more_ascii c cs (grind (arith, is)) (IsAscii-from_digits cs digits)
signed_ascii c cs false false other is digits = IsAscii-from_digits (c ∷ cs) digits

-- a number is text
pub time_is_text : (text : List ℕ) → IsNumeral 10 (without_leading_sign text) → IsUtf8 text
time_is_text [] is = IsUtf8-from_ascii [] (λ i. omega arith)
time_is_text (c ∷ cs) is = IsUtf8-from_ascii (c ∷ cs) (signed_ascii c cs (c == 45) (c == 43) refl refl is.1)

-- what is not read is no time
pub time_is_read : {E : Type 0} (text : List ℕ) (e : E) → ParsesSigned w64 10 text (Err e) → (time : ℤ) → IsTime text time → ⊥
time_is_read text e refused time is = refused (is.0, subst (FitsSigned w64) (sym is.1) is.2)

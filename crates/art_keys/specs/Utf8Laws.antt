-- No byte of UTF-8 is 254 or 255. No public clause cites this.
use Rattle.std.specs.Prelude.{◌≡◌, ℕ, ◌+◌, ◌/◌, ◌<◌, List, [], ◌∷◌, Bool, true, false, cond, ◌&&◌, refl}
use Rattle.std.specs.Str.{IsUtf8, encode_utf8_all, all_scalars}
use Rattle.std.specs.Char.{encode_utf8}
use Rattle.std.proofs.Common.{subst, arith}
use Rattle.std.proofs.lemmas.List.Elements.{All-nil, All-cons, All-append}
use lib.Dec.{T, ltb, ltb→lt}
use lib.Utf8.{scalar, scalar_cases, next}
use mathlib.Core.Logic.{⊎_elim}
use Rattle.art_keys.specs.Strings.{IsStringText}

one_below : (byte : ℕ) (bytes : List ℕ) → byte < 254 → IsStringText bytes → IsStringText (byte ∷ bytes)
one_below byte bytes first later = All-cons (λ byte. byte < 254) byte bytes first later

-- a byte after the first
next_below : (bits : ℕ) (bytes : List ℕ) → IsStringText bytes → IsStringText (next bits ∷ bytes)
next_below bits bytes later = one_below (next bits) bytes (omega arith) later

none_below : IsStringText []
none_below = All-nil (λ byte. byte < 254)

-- the bytes of a character, by which of the lengths it has
of_lengths : (c : ℕ) (one two three : Bool) → c < 1114112 → (T one → c < 128) → (T two → c < 2048) → (T three → c < 65536)
    → IsStringText (cond one (c ∷ []) (cond two ((192 + c / 64) ∷ next c ∷ []) (cond three ((224 + c / 4096) ∷ next (c / 64) ∷ next c ∷ []) ((240 + c / 262144) ∷ next (c / 4096) ∷ next (c / 64) ∷ next c ∷ []))))
of_lengths c true two three most by_one by_two by_three = one_below c [] (let small = by_one tt in omega arith) none_below
of_lengths c false true three most by_one by_two by_three = one_below (192 + c / 64) (next c ∷ []) (let small = by_two tt in omega arith) (next_below c [] none_below)
of_lengths c false false true most by_one by_two by_three =
    one_below (224 + c / 4096) (next (c / 64) ∷ next c ∷ []) (let small = by_three tt in omega arith) (next_below (c / 64) (next c ∷ []) (next_below c [] none_below))
of_lengths c false false false most by_one by_two by_three =
    one_below (240 + c / 262144) (next (c / 4096) ∷ next (c / 64) ∷ next c ∷ []) (omega arith)
    (next_below (c / 4096) (next (c / 64) ∷ next c ∷ []) (next_below (c / 64) (next c ∷ []) (next_below c [] none_below)))

character_below : (c : ℕ) → scalar c ≡ true → IsStringText (encode_utf8 c)
unfolding encode_utf8
character_below c is =
    let most : c < 1114112 = ⊎_elim (λ low. omega (arith, low)) (λ high. high.1) (scalar_cases c is) in
    of_lengths c (ltb c 128) (ltb c 2048) (ltb c 65536) most (ltb→lt c 128) (ltb→lt c 2048) (ltb→lt c 65536)

both_true : (x y : Bool) → x && y ≡ true → (x ≡ true) × (y ≡ true)
both_true true y is = (refl, is)
both_true false y is = cc

characters_below : (cs : List ℕ) → all_scalars cs ≡ true → IsStringText (encode_utf8_all cs)
characters_below [] are = none_below
characters_below (c ∷ cs) are =
    let both = both_true (scalar c) (all_scalars cs) are in
    All-append (λ byte. byte < 254) (encode_utf8 c) (encode_utf8_all cs) (character_below c both.0) (characters_below cs both.1)

pub utf8_below : (bytes : List ℕ) → IsUtf8 bytes → IsStringText bytes
utf8_below bytes is = subst IsStringText is.1.1 (characters_below is.0 is.1.0)

-- Raised strings: their length, each of their bytes, and their order. No public clause cites this.
use Rattle.std.specs.Prelude.{◌≡◌, ℕ, zero, suc, ◌+◌, ◌<◌, ◌≤◌, List, [], ◌∷◌, length, get_or, refl}
use Rattle.std.specs.Ordering.{nat_cmp}
use Rattle.std.specs.declared.cmp.Ordering.TheVariants.{Less, Greater}
use Rattle.std.specs.Cmp.{nat_cmp_is}
use Rattle.std.proofs.Common.{sym, ap, arith}
use Rattle.std.proofs.lemmas.Cmp.{by_ranked, ranked}
use Rattle.std.proofs.lemmas.List.Elements.{All-nil, All-cons, All-head, All-tail}
use Rattle.art_bytes.specs.Text.{IsByte, IsText, text_order}
use Rattle.art_mapped.specs.DigitLaws.{then_assoc}
use Rattle.art_keys.specs.Encoding.{SortedBy}
use Rattle.art_keys.specs.Strings.{raised, IsStringText}

pub length-raised : (bytes : List ℕ) → length (raised bytes) ≡ length bytes + 1
length-raised [] = refl
length-raised (byte ∷ bytes) = omega (arith, length-raised bytes)

pub raised_byte : (bytes : List ℕ) (index : ℕ) → index < length bytes → get_or (raised bytes) index 0 ≡ get_or bytes index 0 + 1
raised_byte [] index here = absurd (omega arith)
raised_byte (byte ∷ bytes) zero here = omega arith
raised_byte (byte ∷ bytes) (suc index) here = raised_byte bytes index (omega arith)

pub raised_end : (bytes : List ℕ) (index : ℕ) → length bytes ≤ index → get_or (raised bytes) index 0 ≡ 0
raised_end [] zero behind = refl
raised_end [] (suc index) behind = refl
raised_end (byte ∷ bytes) zero behind = absurd (omega arith)
raised_end (byte ∷ bytes) (suc index) behind = raised_end bytes index (omega arith)

pub suc_cmp : (x y : ℕ) → nat_cmp (suc x) (suc y) ≡ nat_cmp x y
suc_cmp x y =
    sym (nat_cmp_is (suc x) (suc y) (nat_cmp x y) (by_ranked (x < y) (x ≡ y) (y < x) (nat_cmp x y) (ranked x y (nat_cmp x y) refl)
    (λ is less. rw is (omega arith))
    (λ is same. rw is (ap suc same))
    (λ is greater. rw is (omega arith))))

zero_less : (y : ℕ) → nat_cmp 0 (suc y) ≡ Less
zero_less y = sym (nat_cmp_is 0 (suc y) Less (omega arith))

pub more_zero : (x : ℕ) → nat_cmp (suc x) 0 ≡ Greater
more_zero x = sym (nat_cmp_is (suc x) 0 Greater (omega arith))

-- they sort as the bytes do, whatever follows
pub raised_sort : (xs ys : List ℕ) → SortedBy (text_order xs ys) (raised xs) (raised ys)
raised_sort [] [] r s = refl
raised_sort [] (y ∷ ys) r s = rw (zero_less y) refl
raised_sort (x ∷ xs) [] r s = rw (more_zero x) refl
raised_sort (x ∷ xs) (y ∷ ys) r s =
    rw (suc_cmp x y, raised_sort xs ys r s) (sym (then_assoc (nat_cmp x y) (text_order xs ys) (text_order r s)))

pub raised_are_bytes : (bytes : List ℕ) → IsStringText bytes → IsText (raised bytes)
raised_are_bytes [] below = All-cons IsByte 0 [] (omega arith) (All-nil IsByte)
raised_are_bytes (byte ∷ bytes) below =
    let first : byte < 254 = All-head (λ byte. byte < 254) byte bytes below in
    All-cons IsByte (suc byte) (raised bytes) (omega arith) (raised_are_bytes bytes (All-tail (λ byte. byte < 254) byte bytes below))

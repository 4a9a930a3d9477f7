-- The bytes of integers: width and order. No public clause cites this.
use Rattle.std.specs.Prelude.{◌≡◌, ℕ, zero, suc, ◌+◌, ◌-◌, ◌*◌, ◌^◌, ◌<◌, ◌≤ℤ◌, ℤ, pos, neg_ℤ, ◌+ℤ◌, ◌<ℤ◌, unsigned_abs, List, refl}
use Rattle.std.specs.Ordering.{nat_cmp, int_cmp, on}
use Rattle.std.specs.declared.cmp.Ordering.{Ordering}
use Rattle.std.specs.Coded.{le_prop}
use Rattle.std.specs.Cmp.{nat_cmp_is, int_ranks}
use Rattle.std.proofs.Common.{sym, ap, ◌∙◌, subst, arith, pow-suc}
use Rattle.std.proofs.lemmas.Cmp.{by_ranked}
use Rattle.std.proofs.lemmas.Nat.{pow-add}
use Rattle.std.proofs.lemmas.Int.{ints}
use Rattle.std.proofs.lemmas.Map.Lookups.{exact_unsigned, exact_signed}
use Rattle.art_mapped.specs.Numbers.{digits, IsUnsigned, IsSigned, signed_text}
use Rattle.art_mapped.specs.Elements.{KeepsOrder}
use Rattle.art_mapped.specs.DigitLaws.{length-digits, text_order-digits}

-- the bits of a width in bytes
pub bits_of_width : (width : ℕ) → 2 ^ (8 * width) ≡ 256 ^ width
bits_of_width zero = refl
bits_of_width (suc k) =
    let more : 8 * suc k ≡ 8 * k + 8 = omega arith in
    rw (more, pow-add 2 (8 * k) 8, bits_of_width k, pow-suc 256 k) refl

-- half of the range, twice
two_halves : (width : ℕ) → 0 < width → 2 ^ (8 * width - 1) + 2 ^ (8 * width - 1) ≡ 2 ^ (8 * width)
two_halves width some =
    let j = 8 * width - 1 in
    let up : 8 * width ≡ suc j = omega arith in
    omega (arith, pow-suc 2 j, ap (λ k. 2 ^ k) up)

-- unsigned numbers have the order of their bytes
pub unsigned_keep : (width : ℕ) → 0 < width → KeepsOrder (IsUnsigned width) (digits width) nat_cmp width
unsigned_keep width some =
    record {
      some = some;
      long = λ n _. length-digits width n;
      keeps = λ m n m_in n_in. sym (text_order-digits width m n (rw bits_of_width at m_in) (rw bits_of_width at n_in));
      exact = exact_unsigned;
    }

-- adding half of the range to both of two signed numbers keeps their order
order_of_raised : (h : ℕ) (y z : ℤ) → neg_ℤ (pos h) ≤ℤ y → neg_ℤ (pos h) ≤ℤ z → int_cmp y z ≡ nat_cmp (unsigned_abs (y +ℤ pos h)) (unsigned_abs (z +ℤ pos h))
order_of_raised h y z y_in z_in =
    nat_cmp_is (unsigned_abs (y +ℤ pos h)) (unsigned_abs (z +ℤ pos h)) (int_cmp y z) (by_ranked (y <ℤ z) (y ≡ z) (z <ℤ y) (int_cmp y z) (int_ranks y z)
    (λ is less. rw is (omega (arith, ints)))
    (λ is same. rw is (ap (λ x. unsigned_abs (x +ℤ pos h)) same))
    (λ is greater. rw is (omega (arith, ints))))

-- a signed number plus half of the range is unsigned
raised_is_unsigned : (width : ℕ) (z : ℤ) → 0 < width → IsSigned width z → unsigned_abs (z +ℤ pos (2 ^ (8 * width - 1))) < 256 ^ width
raised_is_unsigned width z some z_in =
    let half = 2 ^ (8 * width - 1) in
    let twice : half + half ≡ 256 ^ width = two_halves width some ∙ bits_of_width width in
    omega (arith, ints, twice, z_in.0, z_in.1)

-- signed numbers have the order of their bytes
pub signed_keep : (width : ℕ) → 0 < width → KeepsOrder (IsSigned width) (signed_text width) int_cmp width
signed_keep width some =
    let half = 2 ^ (8 * width - 1) in
    let raised : ℤ → ℕ = λ z. unsigned_abs (z +ℤ pos half) in
    record {
      some = some;
      long = λ z _. length-digits width (raised z);
      keeps = λ y z y_in z_in.
          order_of_raised half y z y_in.0 z_in.0 ∙ sym (text_order-digits width (raised y) (raised z) (raised_is_unsigned width y some y_in) (raised_is_unsigned width z some z_in));
      exact = exact_signed;
    }

-- values that each stand for a number of their own have the order of these numbers
pub keep_of : {X E : Type 0} {P : E → Type 0} {text_of : E → List ℕ} {order : E → E → Ordering} {width : ℕ} → KeepsOrder P text_of order width → (get : X → E) → ((x y : X) → get x ≡ get y → x ≡ y)
    → KeepsOrder (λ x. P (get x)) (λ x. text_of (get x)) (on get order) width
keep_of laws get decides =
    record {
      some = laws.some;
      long = λ x. laws.long (get x);
      keeps = λ x y. laws.keeps (get x) (get y);
      exact = λ x y tied. decides x y (laws.exact (get x) (get y) tied);
    }

-- a number with a fact about it is determined by the number
pub number_and_fact : {X V : Type 0} {P : V → Type 0} → ((v : V) → IsProp (P v)) → (value : X → V) (fact : (x : X) → P (value x)) (make : (v : V) → P v → X)
    → ((x : X) → make (value x) (fact x) ≡ x) → (x y : X) → value x ≡ value y → x ≡ y
number_and_fact {X} {V} {P} prop value fact make back x y same =
    let Q : V → Type 0 = λ v. (f : P v) → x ≡ make v f in
    let at_x : Q (value x) = λ f. sym (back x) ∙ ap (make (value x)) (prop (value x) (fact x) f) in
    subst Q same at_x (fact y) ∙ back y

-- a `NonZero` of an unsigned type is determined by its number
pub unsigned_decides : {X : Type 0} (value : X → ℕ) (fact : (x : X) → 0 < value x) (make : (n : ℕ) → 0 < n → X) → ((x : X) → make (value x) (fact x) ≡ x) → (x y : X) → value x ≡ value y → x ≡ y
unsigned_decides value fact make back x y same = number_and_fact (λ n. le_prop) value fact make back x y same

-- the same for signed types
pub signed_decides : {X : Type 0} (value : X → ℤ) (fact : (x : X) → 0 < unsigned_abs (value x)) (make : (z : ℤ) → 0 < unsigned_abs z → X)
    → ((x : X) → make (value x) (fact x) ≡ x) → (x y : X) → value x ≡ value y → x ≡ y
signed_decides value fact make back x y same = number_and_fact (λ z. le_prop) value fact make back x y same

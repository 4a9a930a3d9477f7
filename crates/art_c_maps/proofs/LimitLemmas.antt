-- Keys on both sides of those that begin with a prefix.
use Rattle.std.proofs.Common.{◌≡◌, ◌<◌, ◌∙◌, ℕ, Bool, true, false, List, [], ◌∷◌, nat_eq, refl, sym, ap, arith}
use Rattle.std.specs.Cmp.{nat_cmp_is}
use Rattle.std.specs.List.{starts_with}
use Rattle.std.specs.Ordering.{nat_cmp, is_eq, is_ge, is_gt, is_le, is_lt, ordering_reverse, ordering_then}
use Rattle.std.specs.Prelude.{◌&&◌, not, if◌then◌else◌}
use Rattle.std.specs.declared.cmp.Ordering.{Ordering}
use Rattle.std.specs.declared.cmp.Ordering.TheVariants.{Less, Equal, Greater}
use Rattle.std.proofs.lemmas.Cmp.{nat_list_cmp_total, ranked}
use Rattle.art_bytes.specs.Text.{text_order}
use Rattle.art_keys.specs.Prefixes.{prefix_cmp}
use Rattle.art_keys.specs.PrefixLaws.{starts_equal}

-- ---- tests of an order
pub not-lt : (o : Ordering) → not (is_lt o) ≡ is_ge o
not-lt Less = refl
not-lt Equal = refl
not-lt Greater = refl

pub not-le : (o : Ordering) → not (is_le o) ≡ is_gt o
not-le Less = refl
not-le Equal = refl
not-le Greater = refl

-- behind all that begin with a prefix
pub then-greater : (o : Ordering) → is_le (ordering_then o Greater) ≡ is_lt o
then-greater Less = refl
then-greater Equal = refl
then-greater Greater = refl

-- ---- one item of a prefix, and of two keys
less-is : (m n : ℕ) → m < n → nat_cmp m n ≡ Less
less-is m n less = sym (nat_cmp_is m n Less less)

equal-is : (m n : ℕ) → m ≡ n → nat_cmp m n ≡ Equal
equal-is m n same = sym (nat_cmp_is m n Equal same)

-- a key is before a prefix exactly where it is before what the prefix is compared with
pub start-same : (prefix x : List ℕ) → is_le (text_order prefix x) ≡ is_le (prefix_cmp prefix x)
start-same [] [] = refl
start-same [] (b ∷ x) = refl
start-same (a ∷ prefix) [] = refl
start-same (a ∷ prefix) (b ∷ x) = by_order (nat_cmp a b) (start-same prefix x)
  where
    by_order : (o : Ordering) → is_le (text_order prefix x) ≡ is_le (prefix_cmp prefix x) → is_le (ordering_then o (text_order prefix x)) ≡ is_le (ordering_then o (prefix_cmp prefix x))
    by_order Less rest = refl
    by_order Equal rest = rest
    by_order Greater rest = refl

-- the items of two keys, of which one is before that of the prefix, or the other behind it
apart-less : (a b c : ℕ) (o p later : Ordering) → nat_cmp a c ≡ o → nat_cmp a b ≡ p → (p ≡ Greater → ⊥) → (o ≡ Less → ⊥) → (o ≡ Equal → p ≡ Equal → later ≡ Less)
    → ordering_then (nat_cmp c b) later ≡ Less
apart-less a b c Less p later first second low high same = absurd (high refl)
apart-less a b c Equal Greater later first second low high same = absurd (low refl)
apart-less a b c Greater Greater later first second low high same = absurd (low refl)
apart-less a b c Equal Equal later first second low high same =
    let one : a ≡ c = ranked a c Equal (sym first) in let other : a ≡ b = ranked a b Equal (sym second) in
    rw (equal-is c b (sym one ∙ other)) (same refl refl)
apart-less a b c Equal Less later first second low high same =
    let one : a ≡ c = ranked a c Equal (sym first) in let other : a < b = ranked a b Less (sym second) in
    rw (less-is c b (omega (arith, one, other))) refl
apart-less a b c Greater Equal later first second low high same =
    let one : c < a = ranked a c Greater (sym first) in let other : a ≡ b = ranked a b Equal (sym second) in
    rw (less-is c b (omega (arith, one, other))) refl
apart-less a b c Greater Less later first second low high same =
    let one : c < a = ranked a c Greater (sym first) in let other : a < b = ranked a b Less (sym second) in
    rw (less-is c b (omega (arith, one, other))) refl

-- what is before all keys with a prefix is before what is not
pub before-less : (prefix x y : List ℕ) → is_gt (prefix_cmp prefix x) ≡ true → is_gt (prefix_cmp prefix y) ≡ false → text_order x y ≡ Less
before-less [] x y before after = absurd (cc)
before-less (a ∷ prefix) x [] before after = absurd (cc)
before-less (a ∷ prefix) [] (b ∷ y) before after = refl
before-less (a ∷ prefix) (c ∷ x) (b ∷ y) before after =
    apart-less a b c (nat_cmp a c) (nat_cmp a b) (text_order x y) refl refl
    (λ is. let clash = sym (ap (λ o. is_gt (ordering_then o (prefix_cmp prefix y))) is) ∙ after in absurd (cc))
    (λ is. let clash = sym (ap (λ o. is_gt (ordering_then o (prefix_cmp prefix x))) is) ∙ before in absurd (cc))
    (λ first second. before-less prefix x y
    (sym (ap (λ o. is_gt (ordering_then o (prefix_cmp prefix x))) first) ∙ before) (sym (ap (λ o. is_gt (ordering_then o (prefix_cmp prefix y))) second) ∙ after))

-- what is not behind them is before what is
pub behind-less : (prefix x y : List ℕ) → is_lt (prefix_cmp prefix x) ≡ false → is_lt (prefix_cmp prefix y) ≡ true → text_order x y ≡ Less
behind-less [] x y kept gone = absurd (cc)
behind-less (a ∷ prefix) x [] kept gone = absurd (cc)
behind-less (a ∷ prefix) [] (b ∷ y) kept gone = refl
behind-less (a ∷ prefix) (c ∷ x) (b ∷ y) kept gone =
    apart-less a b c (nat_cmp a c) (nat_cmp a b) (text_order x y) refl refl
    (λ is. let clash = sym (ap (λ o. is_lt (ordering_then o (prefix_cmp prefix y))) is) ∙ gone in absurd (cc))
    (λ is. let clash = sym (ap (λ o. is_lt (ordering_then o (prefix_cmp prefix x))) is) ∙ kept in absurd (cc))
    (λ first second. behind-less prefix x y
    (sym (ap (λ o. is_lt (ordering_then o (prefix_cmp prefix x))) first) ∙ kept) (sym (ap (λ o. is_lt (ordering_then o (prefix_cmp prefix y))) second) ∙ gone))

greater-is : (x y : List ℕ) → text_order x y ≡ Less → text_order y x ≡ Greater
greater-is x y less = nat_list_cmp_total.antisymm y x ∙ ap ordering_reverse less

-- ---- limits of the keys that begin with a prefix
-- at a key or after it, at a key or before it, only after it or before it where it is not included
abbrev pub is_after : Bool → Ordering → Bool
is_after inclusive o = if inclusive then is_le o else is_lt o

abbrev pub is_before : Bool → Ordering → Bool
is_before inclusive o = if inclusive then is_ge o else is_gt o

less-after : (inclusive : Bool) (o : Ordering) → o ≡ Less → is_after inclusive o ≡ true
less-after true o is = ap is_le is
less-after false o is = ap is_lt is

greater-after : (inclusive : Bool) (o : Ordering) → o ≡ Greater → is_after inclusive o ≡ false
greater-after true o is = ap is_le is
greater-after false o is = ap is_lt is

greater-before : (inclusive : Bool) (o : Ordering) → o ≡ Greater → is_before inclusive o ≡ true
greater-before true o is = ap is_ge is
greater-before false o is = ap is_gt is

less-before : (inclusive : Bool) (o : Ordering) → o ≡ Less → is_before inclusive o ≡ false
less-before true o is = ap is_ge is
less-before false o is = ap is_gt is

pub and-true : (t : Bool) → (t && true) ≡ t
and-true true = refl
and-true false = refl

and-false : (t : Bool) → (t && false) ≡ false
and-false true = refl
and-false false = refl

module _ (prefix from x : List ℕ) (inclusive : Bool) where
  -- where the key is before all that begin with the prefix
  pub from-start : is_gt (prefix_cmp prefix from) ≡ true
      → (is_le (text_order prefix x) && not (is_lt (prefix_cmp prefix x))) ≡ (starts_with nat_eq x prefix && is_after inclusive (text_order from x))
  from-start before = rw (start-same prefix x, starts_equal prefix x) (by_order (prefix_cmp prefix x) refl)
    where
      by_order : (o : Ordering) → prefix_cmp prefix x ≡ o → (is_le o && not (is_lt o)) ≡ (is_eq o && is_after inclusive (text_order from x))
      by_order Less is = refl
      by_order Equal is = sym (less-after inclusive (text_order from x) (before-less prefix from x before (ap is_gt is)))
      by_order Greater is = refl

  -- where it is not
  pub from-key : is_gt (prefix_cmp prefix from) ≡ false
      → (is_after inclusive (text_order from x) && not (is_lt (prefix_cmp prefix x))) ≡ (starts_with nat_eq x prefix && is_after inclusive (text_order from x))
  from-key after = rw (starts_equal prefix x) (by_order (prefix_cmp prefix x) refl)
    where
      by_order : (o : Ordering) → prefix_cmp prefix x ≡ o → (is_after inclusive (text_order from x) && not (is_lt o)) ≡ (is_eq o && is_after inclusive (text_order from x))
      by_order Less is = and-false (is_after inclusive (text_order from x))
      by_order Equal is = and-true (is_after inclusive (text_order from x))
      by_order Greater is =
          and-true (is_after inclusive (text_order from x))
          ∙ greater-after inclusive (text_order from x) (greater-is x from (before-less prefix x from (ap is_gt is) after))

  -- where the key is behind all that begin with the prefix
  pub to-end : is_lt (prefix_cmp prefix from) ≡ true
      → (is_le (text_order prefix x) && not (is_lt (prefix_cmp prefix x))) ≡ (starts_with nat_eq x prefix && is_before inclusive (text_order from x))
  to-end behind = rw (start-same prefix x, starts_equal prefix x) (by_order (prefix_cmp prefix x) refl)
    where
      by_order : (o : Ordering) → prefix_cmp prefix x ≡ o → (is_le o && not (is_lt o)) ≡ (is_eq o && is_before inclusive (text_order from x))
      by_order Less is = refl
      by_order Equal is = sym (greater-before inclusive (text_order from x) (greater-is x from (behind-less prefix x from (ap is_lt is) behind)))
      by_order Greater is = refl

  -- where it is not
  pub to-key : is_lt (prefix_cmp prefix from) ≡ false
      → (is_le (text_order prefix x) && is_before inclusive (text_order from x)) ≡ (starts_with nat_eq x prefix && is_before inclusive (text_order from x))
  to-key inside = rw (start-same prefix x, starts_equal prefix x) (by_order (prefix_cmp prefix x) refl)
    where
      by_order : (o : Ordering) → prefix_cmp prefix x ≡ o → (is_le o && is_before inclusive (text_order from x)) ≡ (is_eq o && is_before inclusive (text_order from x))
      by_order Less is = less-before inclusive (text_order from x) (behind-less prefix from x inside (ap is_lt is))
      by_order Equal is = refl
      by_order Greater is = refl

-- both of two tests
pub both-same : (p q r s : Bool) → p ≡ r → q ≡ s → (p && q) ≡ (r && s)
both-same p q r s first second = ap (λ b. b && q) first ∙ ap (λ b. r && b) second

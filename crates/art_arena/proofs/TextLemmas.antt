-- Prefixes of texts, and texts that differ after a common prefix.
use Rattle.std.proofs.Common.{◌+◌, nat_eq, drop, inl, inr, ◌≡◌, ◌∙◌, ℕ, ◌<◌, List, [], ◌∷◌, ◌++◌, length, take, refl, sym, ap, arith, append_assoc}
use Rattle.std.specs.Ordering.{nat_cmp, ordering_then}
use Rattle.std.specs.Cmp.{nat_cmp_is}
use Rattle.std.specs.declared.cmp.Ordering.{Ordering}
use Rattle.std.specs.declared.cmp.Ordering.TheVariants.{Less, Equal, Greater}
use Rattle.std.proofs.lemmas.Bool.Decides.{eqb_tells}
use Rattle.std.proofs.lemmas.Cmp.{by_ranked, ranked}
use Rattle.std.specs.List.{common_prefix_len}
use Rattle.art_arena.specs.CommonPrefix.{IsSharedFrom}
use Rattle.art_bytes.specs.Text.{IsPrefixOf, text_order}
use Rattle.art_bytes.proofs.PrefixLaws.{prefix-antisym}

-- a prefix of two texts that differ after q is a prefix of q
pub prefix_of_both : (o q : List ℕ) (c d : ℕ) (r s t u : List ℕ) → o ++ r ≡ (q ++ c ∷ []) ++ s → o ++ t ≡ (q ++ d ∷ []) ++ u → (c ≡ d → ⊥) → IsPrefixOf o q
prefix_of_both [] q c d r s t u first second differ = (q, refl)
prefix_of_both (y ∷ o) [] c d r s t u first second differ = let a : y ≡ c = cc in let b : y ≡ d = cc in absurd (differ (sym a ∙ b))
prefix_of_both (y ∷ o) (z ∷ q) c d r s t u first second differ =
    let same : y ≡ z = cc in
    let one : o ++ r ≡ (q ++ c ∷ []) ++ s = cc in
    let two : o ++ t ≡ (q ++ d ∷ []) ++ u = cc in
    let rest = prefix_of_both o q c d r s t u one two differ in
    (rest.0, ap (λ w. z ∷ w) rest.1 ∙ ap (λ w. w ∷ (o ++ rest.0)) (sym same))

-- one text is before another: after a common prefix it has the smaller byte
pub record PartsBefore (a b : List ℕ) : Type 0 where
  pub front : List ℕ
  pub lesser : ℕ
  pub greater : ℕ
  pub begins : IsPrefixOf (front ++ lesser ∷ []) a
  pub other_begins : IsPrefixOf (front ++ greater ∷ []) b
  pub ascends : lesser < greater

nat_cmp-itself : (n : ℕ) → nat_cmp n n ≡ Equal
nat_cmp-itself n = sym (nat_cmp_is n n Equal refl)

-- a common prefix does not count
pub text_order-append : (q a b : List ℕ) → text_order (q ++ a) (q ++ b) ≡ text_order a b
text_order-append [] a b = refl
text_order-append (x ∷ q) a b = rw (nat_cmp-itself x) (text_order-append q a b)

parted-less : (q : List ℕ) (c d : ℕ) (r s : List ℕ) → c < d → text_order ((q ++ c ∷ []) ++ r) ((q ++ d ∷ []) ++ s) ≡ Less
parted-less q c d r s less = rw (append_assoc q (c ∷ []) r, append_assoc q (d ∷ []) s, text_order-append q (c ∷ r) (d ∷ s)) (ap (λ o. ordering_then o (text_order r s)) (sym (nat_cmp_is c d Less less)))

-- it is less
pub PartsBefore-less : (a b : List ℕ) → PartsBefore a b → text_order a b ≡ Less
PartsBefore-less a b parts =
    ap (λ z. text_order z b) parts.begins.1 ∙ ap (text_order ((parts.front ++ parts.lesser ∷ []) ++ parts.begins.0)) parts.other_begins.1 ∙ parted-less parts.front parts.lesser parts.greater parts.begins.0 parts.other_begins.0 parts.ascends

apart : (q : List ℕ) (c d : ℕ) (r s t : List ℕ) → (c ≡ d → ⊥) → (q ++ c ∷ []) ++ r ≡ ((q ++ d ∷ []) ++ s) ++ t → ⊥
apart [] c d r s t differ same = differ (cc)
apart (x ∷ q) c d r s t differ same = let tails : (q ++ c ∷ []) ++ r ≡ ((q ++ d ∷ []) ++ s) ++ t = cc in apart q c d r s t differ tails

-- neither is a prefix of the other
pub PartsBefore-apart : (a b : List ℕ) → PartsBefore a b → (IsPrefixOf a b → ⊥) × (IsPrefixOf b a → ⊥)
PartsBefore-apart a b parts =
    let q : List ℕ = parts.front in (
      λ front. apart q parts.greater parts.lesser parts.other_begins.0 parts.begins.0 front.0 (λ same. omega (arith, parts.ascends)) (sym parts.other_begins.1 ∙ front.1 ∙ ap (λ z. z ++ front.0) parts.begins.1),
      λ front. apart q parts.lesser parts.greater parts.begins.0 parts.other_begins.0 front.0 (λ same. omega (arith, parts.ascends)) (sym parts.begins.1 ∙ front.1 ∙ ap (λ z. z ++ front.0) parts.other_begins.1),
    )

carried_by_byte : (byte q r o : Ordering) → (q ≡ o → r ≡ o) → ordering_then byte q ≡ o → ordering_then byte r ≡ o
carried_by_byte Less q r o carried is = is
carried_by_byte Equal q r o carried is = carried is
carried_by_byte Greater q r o carried is = is

-- where a text and the rest of a key differ in the text's prefix, they are in the order of that
-- prefix
pub text_order-carried : (q s rest : List ℕ) (o : Ordering) → (o ≡ Equal → ⊥) → text_order q (take (length q) rest) ≡ o → text_order (q ++ s) rest ≡ o
text_order-carried [] s rest o never is = absurd (never (sym is))
text_order-carried (x ∷ q) s [] o never is = is
text_order-carried (x ∷ q) s (y ∷ rest) o never is =
    carried_by_byte (nat_cmp x y) (text_order q (take (length q) rest)) (text_order (q ++ s) rest) o (text_order-carried q s rest o never) is

-- texts share one thing from a depth on
pub IsSharedFrom-same : (depth : ℕ) (texts : List (List ℕ)) (p q : List ℕ) → IsSharedFrom depth texts p → IsSharedFrom depth texts q → p ≡ q
IsSharedFrom-same depth texts p q (a, a_shared, p_is) (b, b_shared, q_is) =
    p_is ∙ ap (drop depth) (prefix-antisym a b (b_shared.longest a a_shared.begins_each) (a_shared.longest b b_shared.begins_each)) ∙ sym q_is

-- where as many bytes as a prefix has are common, it begins the rest
pub prefix-matched : (prefix rest : List ℕ) → common_prefix_len nat_eq prefix rest ≡ length prefix → IsPrefixOf prefix rest
prefix-matched [] rest is = (rest, refl)
prefix-matched (x ∷ prefix) [] is = absurd (omega (arith, is))
prefix-matched (x ∷ prefix) (y ∷ rest) is = elim (eqb_tells x y) [
  | inl same ↦
      let more : 1 + common_prefix_len nat_eq prefix rest ≡ length (x ∷ prefix) = rw same.0 at is in
      let tail = prefix-matched prefix rest (omega (arith, more)) in
      (tail.0, ap (λ z. z ∷ rest) (sym same.1) ∙ ap (λ z. x ∷ z) tail.1)
  | inr differ ↦ let none : 0 ≡ length (x ∷ prefix) = rw differ.0 at is in absurd (omega (arith, none))
]

-- a prefix that is equal to the part of the rest beside it is matched
pub matched_where_equal : (prefix rest : List ℕ) → text_order prefix (take (length prefix) rest) ≡ Equal → common_prefix_len nat_eq prefix rest ≡ length prefix
matched_where_equal [] rest is = refl
matched_where_equal (x ∷ prefix) [] is = absurd (cc)
matched_where_equal (x ∷ prefix) (y ∷ rest) is = elim (eqb_tells x y) [
  | inl same ↦
      let tie : nat_cmp x y ≡ Equal = ap (λ z. nat_cmp x z) (sym same.1) ∙ nat_cmp-itself x in
      let rest_equal : text_order prefix (take (length prefix) rest) ≡ Equal = rw tie at is in
      let tail = matched_where_equal prefix rest rest_equal in
      rw same.0 (omega (arith, tail))
  | inr differ ↦ absurd (parted x y (text_order prefix (take (length prefix) rest)) differ.1 is)
]
  where
    parted : (a b : ℕ) (o : Ordering) → (a ≡ b → ⊥) → ordering_then (nat_cmp a b) o ≡ Equal → ⊥
    parted a b o differ tied = by_ranked (a < b) (a ≡ b) (b < a) (nat_cmp a b) (ranked a b (nat_cmp a b) refl)
        (λ is_less below. let wrong : Less ≡ Equal = rw is_less at tied in cc)
        (λ is_equal same. differ same)
        (λ is_greater above. let wrong : Greater ≡ Equal = rw is_greater at tied in cc)

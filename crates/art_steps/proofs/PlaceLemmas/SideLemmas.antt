-- On which side of a key texts lie.
use Rattle.art_steps.proofs.Names.{◌≡◌, ◌≢◌, ◌∙◌, ℕ, ◌<◌, Bool, true, false, List, [], ◌∷◌, ◌++◌, refl, sym, ap, subst, inl, inr, arith, nat_eq, append_assoc, append-nil, slice_cmp, starts_with, nat_cmp, ordering_then, Ordering, Less, Equal, Greater, eqb_tells, All-nil, All-cons, All-head, All-tail, All-append, IsPrefixOf, text_order, IsAtEnd, End, First, Last, IsProperPrefixOf, IsLeafBeside, comes_before, is_before, is_last, AreOn, IsBesideKey, Side}
use Rattle.std.specs.Cmp.{nat_cmp_is}
use Rattle.art_steps.specs.declared.place.Side.TheVariants.{Before, After, AfterBegun}

-- the order of two texts, and whether the second begins the first
record Compares (a b : List ℕ) (order : Ordering) (begun : Bool) : Type 0 where
  pub order_is : text_order a b ≡ order
  pub begun_is : starts_with nat_eq a b ≡ begun

-- one more byte that is the same
same-byte : (x : ℕ) (a b : List ℕ) (order : Ordering) (begun : Bool) → Compares a b order begun → Compares (x ∷ a) (x ∷ b) order begun
same-byte x a b order begun is = elim (eqb_tells x x) [
  | inl same ↦
      record {
        order_is = ap (λ o. ordering_then o (text_order a b)) (sym (nat_cmp_is x x Equal refl)) ∙ is.order_is;
        begun_is = rw same.0 is.begun_is;
      }
  | inr differ ↦ absurd (differ.1 refl)
]

under : (path a b : List ℕ) (order : Ordering) (begun : Bool) → Compares a b order begun → Compares (path ++ a) (path ++ b) order begun
under [] a b order begun is = is
under (x ∷ path) a b order begun is = same-byte x (path ++ a) (path ++ b) order begun (under path a b order begun is)

-- texts that differ at a byte
first-differs : (a b : ℕ) (s t : List ℕ) (order : Ordering) → b ≢ a → nat_cmp a b ≡ order → ordering_then order (slice_cmp nat_cmp s t) ≡ order → Compares (a ∷ s) (b ∷ t) order false
first-differs a b s t order differ is decides = elim (eqb_tells b a) [
  | inl same ↦ absurd (differ same.1)
  | inr apart ↦ record { order_is = ap (λ o. ordering_then o (slice_cmp nat_cmp s t)) is ∙ decides; begun_is = rw apart.0 refl }
]

-- a text that begins with a longer prefix, as it has it
opened : (path : List ℕ) (a : ℕ) (text : List ℕ) (front : IsPrefixOf (path ++ a ∷ []) text) → text ≡ path ++ a ∷ front.0
opened path a text front = front.1 ∙ append_assoc path (a ∷ []) front.0

-- two texts that go on after the same path
side-under : (side : Side) (path a b text key : List ℕ) (order : Ordering) (begun : Bool) → text ≡ path ++ a → key ≡ path ++ b → Compares a b order begun → is_before side key text ≡ comes_before side order begun
side-under side path a b text key order begun text_is key_is compares =
    let is = under path a b order begun compares in (λ i. is_before side (key_is i) (text_is i)) ∙ (λ i. comes_before side (is.order_is i) (is.begun_is i))

before-less : (side : Side) → comes_before side Less false ≡ true
before-less Before = refl
before-less After = refl
before-less AfterBegun = refl

not-before-greater : (side : Side) → comes_before side Greater false ≡ false
not-before-greater Before = refl
not-before-greater After = refl
not-before-greater AfterBegun = refl

-- texts under a lesser byte than the key's come before it, those under a greater one do not
pub lesser-before : (side : Side) (path : List ℕ) (a b : ℕ) (text key : List ℕ) → IsPrefixOf (path ++ a ∷ []) text → IsPrefixOf (path ++ b ∷ []) key → a < b → is_before side key text ≡ true
lesser-before side path a b text key in_text in_key less =
    side-under side path (a ∷ in_text.0) (b ∷ in_key.0) text key Less false (opened path a text in_text) (opened path b key in_key)
    (first-differs a b in_text.0 in_key.0 Less (λ same. omega (arith, same, less)) (sym (nat_cmp_is a b Less less)) refl) ∙ before-less side

pub greater-after : (side : Side) (path : List ℕ) (a b : ℕ) (text key : List ℕ) → IsPrefixOf (path ++ a ∷ []) text → IsPrefixOf (path ++ b ∷ []) key → b < a → is_before side key text ≡ false
greater-after side path a b text key in_text in_key more =
    side-under side path (a ∷ in_text.0) (b ∷ in_key.0) text key Greater false (opened path a text in_text) (opened path b key in_key)
    (first-differs a b in_text.0 in_key.0 Greater (λ same. omega (arith, same, more)) (sym (nat_cmp_is a b Greater more)) refl) ∙ not-before-greater side

-- the side of the key itself
pub key-itself : (side : Side) (key : List ℕ) → is_before side key key ≡ comes_before side Equal true
key-itself side key =
    side-under side key [] [] key key Equal true (sym (append-nil key)) (sym (append-nil key)) (record { order_is = refl; begun_is = refl })

-- a proper prefix of the key comes before it, and texts that the key begins lie on one side
pub prefix-before : (side : Side) (text key : List ℕ) → IsProperPrefixOf text key → is_before side key text ≡ true
prefix-before side text key ((rest, is), differ) = by_rest rest is
  where
    by_rest : (rest : List ℕ) → key ≡ text ++ rest → is_before side key text ≡ true
    by_rest [] whole = absurd (differ (sym (whole ∙ append-nil text)))
    by_rest (x ∷ rest) whole = side-under side text [] (x ∷ rest) text key Less false (sym (append-nil text)) whole (record { order_is = refl; begun_is = refl }) ∙ before-less side

pub begun-side : (side : Side) (text key : List ℕ) → IsProperPrefixOf key text → is_before side key text ≡ comes_before side Greater true
begun-side side text key ((rest, is), differ) = by_rest rest is
  where
    by_rest : (rest : List ℕ) → text ≡ key ++ rest → is_before side key text ≡ comes_before side Greater true
    by_rest [] whole = absurd (differ (sym (whole ∙ append-nil key)))
    by_rest (x ∷ rest) whole = side-under side key (x ∷ rest) [] text key Greater true whole (sym (append-nil key)) (record { order_is = refl; begun_is = refl })

module _ {H : Type 0} (side : Side) (key : List ℕ) where
  abbrev IsOn : Bool → H × List ℕ → Type 0
  IsOn before leaf = is_before side key leaf.1 ≡ before

  -- the leaves before the last one, and the last one
  earlier : (member : H × List ℕ) (others : List (H × List ℕ)) → AreOn side key true (others ++ member ∷ []) → AreOn side key true others × IsOn true member
  earlier member [] all = (All-nil (IsOn true), All-head (IsOn true) member [] all)
  earlier member (x ∷ xs) all =
      let rest = earlier member xs (All-tail (IsOn true) x (xs ++ member ∷ []) all) in
      (All-cons (IsOn true) x xs (All-head (IsOn true) x (xs ++ member ∷ []) all) rest.0, rest.1)

  -- where a side of the key is a gap between leaves, the leaf beside the gap is next to it
  pub gap-next : (all left right : List (H × List ℕ)) (end : End) (pointer : H) → all ≡ left ++ right → AreOn side key true left → AreOn side key false right → IsLeafBeside end left right pointer → IsBesideKey side key all end pointer
  gap-next all left right First pointer is on_left on_right (text, (others, beside)) =
      let right_is = subst (AreOn side key false) beside on_right in
      record {
        text = text;
        left = left;
        right = others;
        is = is ∙ ap (λ more. left ++ more) beside;
        left_before = on_left;
        right_after = All-tail (IsOn false) (pointer, text) others right_is;
        here = All-head (IsOn false) (pointer, text) others right_is;
      }
  gap-next all left right Last pointer is on_left on_right (text, (others, beside)) =
      let both = earlier (pointer, text) others (subst (AreOn side key true) beside on_left) in
      record {
        text = text;
        left = others;
        right = right;
        is = is ∙ ap (λ more. more ++ right) beside ∙ append_assoc others ((pointer, text) ∷ []) right;
        left_before = both.0;
        right_after = on_right;
        here = both.1;
      }

  -- the same of the leaves of a part that all lie on one side, and of the end of them that is next to it
  pub part-next : (all left part right : List (H × List ℕ)) (end : End) (pointer : H) → all ≡ left ++ (part ++ right) → AreOn side key true left → AreOn side key false right → AreOn side key (is_last end) part → IsAtEnd end part pointer → IsBesideKey side key all end pointer
  part-next all left part right First pointer is on_left on_right on_part (text, others, at_end) =
      gap-next all left (part ++ right) First pointer is on_left (All-append (IsOn false) part right on_part on_right) (text, (others ++ right, ap (λ more. more ++ right) at_end))
  part-next all left part right Last pointer is on_left on_right on_part (text, others, at_end) =
      gap-next all (left ++ part) right Last pointer (is ∙ sym (append_assoc left part right)) (All-append (IsOn true) left part on_left on_part) on_right (text, (left ++ others, ap (λ more. left ++ more) at_end ∙ sym (append_assoc left others ((pointer, text) ∷ []))))

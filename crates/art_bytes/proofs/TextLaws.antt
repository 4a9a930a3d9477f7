-- Laws of the test and of the order of texts, for proofs in crates above.
use Rattle.std.proofs.Common.{◌≡◌, ◌≢◌, ◌⊎◌, ◌∙◌, inl, inr, ℕ, suc, Bool, true, false, List, [], ◌∷◌, All, AllPairs, Contains, slice_index_or, nat_eq, refl, sym, ap, subst, arith}
use Rattle.std.specs.Cmp.Lexicographic.{pointwise, bytes_decides, nat_list_cmp_total, texts_ties}
use Rattle.std.specs.Ordering.{is_eq, ordering_reverse}
use Rattle.std.specs.declared.cmp.Ordering.{Ordering}
use Rattle.std.specs.declared.cmp.Ordering.TheVariants.{Less, Equal, Greater}
use Rattle.std.proofs.lemmas.List.Elements.{All-cons, All-weaker}
use Rattle.art_bytes.specs.Text.{text_order}
use Rattle.art_bytes.proofs.Members.{first_or_later, first_there, later_there}

-- the test of two texts is true where they are the same

pub text_itself : (a : List ℕ) → pointwise nat_eq a a ≡ true
text_itself a = (bytes_decides a a).1 refl

pub same_text : (a b : List ℕ) → pointwise nat_eq a b ≡ true → a ≡ b
same_text a b = (bytes_decides a b).0

pub other_text : (a b : List ℕ) → a ≢ b → pointwise nat_eq a b ≡ false
other_text a b differ = by_test (pointwise nat_eq a b) refl
  where
    by_test : (t : Bool) → pointwise nat_eq a b ≡ t → t ≡ false
    by_test true same = absurd (differ (same_text a b same))
    by_test false not_same = refl

pub texts_differ : (a b : List ℕ) → pointwise nat_eq a b ≡ false → a ≢ b
texts_differ a b not_same same = let is : pointwise nat_eq a b ≡ true = (bytes_decides a b).1 same in absurd (cc)

pub text_is : (a b : List ℕ) → (a ≡ b) ⊎ (a ≢ b)
text_is a b = by_test (pointwise nat_eq a b) refl
  where
    by_test : (t : Bool) → pointwise nat_eq a b ≡ t → (a ≡ b) ⊎ (a ≢ b)
    by_test true is = inl (same_text a b is)
    by_test false is = inr (texts_differ a b is)

-- what follows where two texts are the same, and where they are not, follows
pub by_text : (a b : List ℕ) (Goal : Type 0) → (pointwise nat_eq a b ≡ true → a ≡ b → Goal) → (pointwise nat_eq a b ≡ false → a ≢ b → Goal) → Goal
by_text a b Goal same differ = by_test (pointwise nat_eq a b) refl
  where
    by_test : (t : Bool) → pointwise nat_eq a b ≡ t → Goal
    by_test true is = same is (same_text a b is)
    by_test false is = differ is (texts_differ a b is)

-- their order

pub by_order : (a b : List ℕ) (Goal : Type 0) → (text_order a b ≡ Less → Goal) → (text_order a b ≡ Equal → Goal) → (text_order a b ≡ Greater → Goal) → Goal
by_order a b Goal less equal greater = by_cases (text_order a b) refl
  where
    by_cases : (o : Ordering) → text_order a b ≡ o → Goal
    by_cases Less is = less is
    by_cases Equal is = equal is
    by_cases Greater is = greater is

pub same_order : (a b : List ℕ) → text_order a b ≡ Equal → a ≡ b
same_order a b equal = same_text a b (texts_ties a b ∙ ap is_eq equal)

pub order_itself : (a : List ℕ) → text_order a a ≡ Equal
order_itself a = only_equal (text_order a a) (sym (texts_ties a a) ∙ text_itself a)
  where
    only_equal : (o : Ordering) → is_eq o ≡ true → o ≡ Equal
    only_equal Less is = absurd (cc)
    only_equal Equal is = refl
    only_equal Greater is = absurd (cc)

pub less_differs : (a b : List ℕ) → text_order a b ≡ Less → a ≢ b
less_differs a b less same = let wrong : Equal ≡ Less = sym (order_itself a) ∙ ap (text_order a) same ∙ less in absurd (cc)

pub greater_differs : (a b : List ℕ) → text_order a b ≡ Greater → a ≢ b
greater_differs a b greater same = let wrong : Equal ≡ Greater = sym (order_itself a) ∙ ap (text_order a) same ∙ greater in absurd (cc)

pub less_turned : (a b : List ℕ) → text_order a b ≡ Less → text_order b a ≡ Greater
less_turned a b less = nat_list_cmp_total.antisymm b a ∙ ap ordering_reverse less

pub greater_turned : (a b : List ℕ) → text_order a b ≡ Greater → text_order b a ≡ Less
greater_turned a b greater = nat_list_cmp_total.antisymm b a ∙ ap ordering_reverse greater

-- of two texts just one is less
pub not_both_less : (a b : List ℕ) → text_order a b ≡ Less → text_order b a ≢ Less
not_both_less a b less more = let greater = less_turned a b less in absurd (cc)

-- texts that ascend: each of them is below those after it

abbrev pub Ascend : List (List ℕ) → Type 0
Ascend texts = AllPairs (λ a b. text_order a b ≡ Less) texts

pub ascend_rest : (x : List ℕ) (xs : List (List ℕ)) → Ascend (x ∷ xs) → Ascend xs
ascend_rest x xs ascend i j d before within = ascend (suc i) (suc j) d (omega (arith, before)) (omega (arith, within))

-- the first is below each of the others
pub none_below : (x y : List ℕ) (xs : List (List ℕ)) → Ascend (x ∷ xs) → Contains xs y → text_order x y ≡ Less
none_below x y xs ascend inside = subst (λ z. text_order x z ≡ Less) inside.2 (ascend 0 (suc inside.0) y (omega arith) (omega (arith, inside.1)))

pub first_below : (x : List ℕ) (xs : List (List ℕ)) → Ascend (x ∷ xs) → All (λ y. text_order x y ≡ Less) xs
first_below x xs ascend k d inside = ascend 0 (suc k) d (omega arith) (omega (arith, inside))

-- what is below the first of them is below all, and none of them
pub all_below : (y x : List ℕ) (xs : List (List ℕ)) → text_order y x ≡ Less → Ascend (x ∷ xs) → All (λ z. text_order y z ≡ Less) (x ∷ xs)
all_below y x xs less ascend =
    All-cons (λ z. text_order y z ≡ Less) x xs less (All-weaker (λ z. text_order x z ≡ Less) (λ z. text_order y z ≡ Less) (λ z further. nat_list_cmp_total.trans y x z less further) xs (first_below x xs ascend))

pub below_first : (x y : List ℕ) (xs : List (List ℕ)) → Ascend (x ∷ xs) → text_order y x ≡ Less → Contains (x ∷ xs) y → ⊥
below_first x y xs ascend less inside = elim (first_or_later x y xs inside) [
  | inl same ↦ less_differs y x less (sym same)
  | inr later ↦ not_both_less y x less (none_below x y xs ascend later)
]

-- no two of them are the same
pub distinct_texts : (texts : List (List ℕ)) → Ascend texts → AllPairs (λ a b. a ≢ b) texts
distinct_texts texts ascend i j d before within = less_differs (slice_index_or texts i d) (slice_index_or texts j d) (ascend i j d before within)

-- two lists of texts that ascend and have the same members are one
pub same_texts : (xs ys : List (List ℕ)) → Ascend xs → Ascend ys → ((z : List ℕ) → Contains xs z → Contains ys z) → ((z : List ℕ) → Contains ys z → Contains xs z) → xs ≡ ys
same_texts [] [] left right there back = refl
same_texts [] (y ∷ ys) left right there back = let none = back y (first_there y y ys refl) in absurd (omega (arith, none.1))
same_texts (x ∷ xs) [] left right there back = let none = there x (first_there x x xs refl) in absurd (omega (arith, none.1))
same_texts (x ∷ xs) (y ∷ ys) left right there back =
    (λ i. first i ∷ same_texts xs ys (ascend_rest x xs left) (ascend_rest y ys right)
    (λ z inside. rest x xs y ys z left first inside (there z (later_there x z xs inside)))
    (λ z inside. rest y ys x xs z right (sym first) inside (back z (later_there y z ys inside))) i)
  where
    first : x ≡ y
    first = elim (first_or_later y x ys (there x (first_there x x xs refl))) [
      | inl same ↦ sym same
      | inr after ↦ elim (first_or_later x y xs (back y (first_there y y ys refl))) [
        | inl same ↦ same
        | inr before ↦ absurd (not_both_less y x (none_below y x ys right after) (none_below x y xs left before))
      ]
    ]

    -- a later text of one list is a later one of the other
    rest : (a : List ℕ) (as' : List (List ℕ)) (b : List ℕ) (bs : List (List ℕ)) (z : List ℕ) → Ascend (a ∷ as') → a ≡ b → Contains as' z → Contains (b ∷ bs) z → Contains bs z
    rest a as' b bs z ascend same inside found = elim (first_or_later b z bs found) [
      | inr after ↦ after
      | inl one ↦ absurd (less_differs a z (none_below a z as' ascend inside) (same ∙ one))
    ]

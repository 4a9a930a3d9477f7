-- Comparisons return the order of each domain.
use Rattle.std.proofs.Common.{◌≡◌, ℕ, ℤ, List, [], ◌∷◌, length, refl, sym, ap, ◌∙◌, inl, inr, arith, length-append}
use Rattle.std.specs.Prelude.{◌⊎◌}
use Rattle.std.specs.Ordering.{MatchOrdering, ordering_then, ordering_reverse, nat_cmp, int_cmp}
use Rattle.std.specs.declared.cmp.Ordering.{Ordering}
use Rattle.std.specs.declared.cmp.Ordering.TheVariants.{Less, Equal, Greater}
use Rattle.std.specs.Cmp.{IsTotalOrder, int_ranks}
use Rattle.std.specs.Cmp.Lexicographic.{slice_cmp}
use Rattle.std.proofs.lemmas.Cmp.{ranked}
use Rattle.art_mapped.specs.Orders.{BySize, BySignedSize, FirstDiffers, EndsFirst, ByFirstItem, ByFirstItemOrEnd}

pub nat_by_size : (x y : ℕ) → BySize (nat_cmp x y) x y
nat_by_size x y = ranked x y (nat_cmp x y) refl

pub int_by_size : (x y : ℤ) → BySignedSize (int_cmp x y) x y
int_by_size x y = int_ranks x y

-- weaker facts hold where the facts do
pub weaken : (o : Ordering) {P Q R S T U : Type 0} → (P → S) → (Q → T) → (R → U) → MatchOrdering o P Q R → MatchOrdering o S T U
weaken Less p q r is = p is
weaken Equal p q r is = q is
weaken Greater p q r is = r is

module _ {E : Type 0} (is_less : E → E → Type 0) where
  differs_later : (x y : E) (xs ys : List E) → x ≡ y → FirstDiffers is_less xs ys → FirstDiffers is_less (x ∷ xs) (y ∷ ys)
  differs_later x y xs ys same at =
      record {
        shared = x ∷ at.shared;
        lesser = at.lesser;
        greater = at.greater;
        after_lesser = at.after_lesser;
        after_greater = at.after_greater;
        first = ap (λ rest. x ∷ rest) at.first;
        second = rw (same, ← at.second) refl;
        less = at.less;
      }

  ends_later : (x y : E) (xs ys : List E) → x ≡ y → EndsFirst xs ys → EndsFirst (x ∷ xs) (y ∷ ys)
  ends_later x y xs ys same at = record { next = at.next; rest = at.rest; longer = rw (same, ← at.longer) refl }

  either_later : (x y : E) (xs ys : List E) → x ≡ y → FirstDiffers is_less xs ys ⊎ EndsFirst xs ys → FirstDiffers is_less (x ∷ xs) (y ∷ ys) ⊎ EndsFirst (x ∷ xs) (y ∷ ys)
  either_later x y xs ys same (inl at) = inl (differs_later x y xs ys same at)
  either_later x y xs ys same (inr at) = inr (ends_later x y xs ys same at)

  differs_here : (x y : E) (xs ys : List E) → is_less x y → FirstDiffers is_less (x ∷ xs) (y ∷ ys)
  differs_here x y xs ys less = record { shared = []; lesser = x; greater = y; after_lesser = xs; after_greater = ys; first = refl; second = refl; less = less }

  cons_by_first : (x y : E) (xs ys : List E) (o p : Ordering) → MatchOrdering o (is_less x y) (x ≡ y) (is_less y x) → ByFirstItemOrEnd is_less p xs ys → ByFirstItemOrEnd is_less (ordering_then o p) (x ∷ xs) (y ∷ ys)
  cons_by_first x y xs ys Less p first later = inl (differs_here x y xs ys first)
  cons_by_first x y xs ys Greater p first later = inl (differs_here y x ys xs first)
  cons_by_first x y xs ys Equal Less first later = either_later x y xs ys first later
  cons_by_first x y xs ys Equal Equal first later = rw (first, later) refl
  cons_by_first x y xs ys Equal Greater first later = either_later y x ys xs (sym first) later

  -- lists compare by the first item that differs
  pub list_by_first : (order : E → E → Ordering) → ((x y : E) → MatchOrdering (order x y) (is_less x y) (x ≡ y) (is_less y x)) → (xs ys : List E) → ByFirstItemOrEnd is_less (slice_cmp order xs ys) xs ys
  list_by_first order items [] [] = refl
  list_by_first order items [] (y ∷ ys) = inr (record { next = y; rest = ys; longer = refl })
  list_by_first order items (x ∷ xs) [] = inr (record { next = x; rest = xs; longer = refl })
  list_by_first order items (x ∷ xs) (y ∷ ys) = cons_by_first x y xs ys (order x y) (slice_cmp order xs ys) (items x y) (list_by_first order items xs ys)

  -- of two lists of one length none ends first
  only_differs : (xs ys : List E) → length xs ≡ length ys → FirstDiffers is_less xs ys ⊎ EndsFirst xs ys → FirstDiffers is_less xs ys
  only_differs xs ys long (inl at) = at
  only_differs xs ys long (inr at) = absurd (let size = ap length at.longer in omega (arith, length-append xs (at.next ∷ at.rest)))

  pub array_by_first : (order : E → E → Ordering) → ((x y : E) → MatchOrdering (order x y) (is_less x y) (x ≡ y) (is_less y x)) → (xs ys : List E) → length xs ≡ length ys → ByFirstItem is_less (slice_cmp order xs ys) xs ys
  array_by_first order items xs ys long = weaken (slice_cmp order xs ys) (only_differs xs ys long) (λ same. same) (only_differs ys xs (sym long)) (list_by_first order items xs ys)

-- items whose ties are equal are in the order that their comparison returns
pub by_comparison : {E : Type 0} (order : E → E → Ordering) → IsTotalOrder order → ((x y : E) → order x y ≡ Equal → x ≡ y) → (x y : E) → MatchOrdering (order x y) (order x y ≡ Less) (x ≡ y) (order y x ≡ Less)
by_comparison order total exact x y = at (order x y) refl
  where
    at : (o : Ordering) → order x y ≡ o → MatchOrdering o (order x y ≡ Less) (x ≡ y) (order y x ≡ Less)
    at Less is = is
    at Equal is = exact x y is
    at Greater is = total.antisymm y x ∙ ap ordering_reverse is

-- Several elements: length and order. No public clause cites this.
use Rattle.std.specs.Prelude.{◌≡◌, ℕ, ◌+◌, ◌*◌, ◌<◌, List, [], ◌∷◌, ◌++◌, length, All, refl}
use Rattle.std.specs.Ordering.{nat_cmp, ordering_then}
use Rattle.std.specs.declared.cmp.Ordering.{Ordering}
use Rattle.std.specs.declared.cmp.Ordering.TheVariants.{Less, Equal, Greater}
use Rattle.std.specs.Cmp.Lexicographic.{slice_cmp}
use Rattle.std.proofs.Common.{sym, ap, ◌∙◌, arith, length-append}
use Rattle.std.proofs.lemmas.List.Elements.{All-head, All-tail}
use Rattle.std.proofs.lemmas.Map.Lookups.{CmpEqualImpliesEq}
use Rattle.std.proofs.lemmas.Cmp.{tied_itself, nat_list_cmp_total}
use Rattle.art_bytes.specs.Text.{IsPrefixOf, text_order}
use Rattle.art_bytes.specs.Laws.{prefix_of_length}
use Rattle.art_mapped.specs.DigitLaws.{then_assoc}
use Rattle.art_mapped.specs.Elements.{KeepsOrder}
use Rattle.art_mapped.specs.Sequences.{joined, IsArray}
use Rattle.art_mapped.specs.Tuples.{Both, both_texts}

-- where both first parts have one length, the first part that differs decides
pub text_order-append : (a b c d : List ℕ) → length a ≡ length b → text_order (a ++ c) (b ++ d) ≡ ordering_then (text_order a b) (text_order c d)
text_order-append [] [] c d long = refl
text_order-append [] (y ∷ b) c d long = absurd (omega arith)
text_order-append (x ∷ a) [] c d long = absurd (omega arith)
text_order-append (x ∷ a) (y ∷ b) c d long =
    let short : length a ≡ length b = omega arith in
    rw (text_order-append a b c d short) (sym (then_assoc (nat_cmp x y) (text_order a b) (text_order c d)))

-- where two comparisons tie one after the other, each ties
tied_parts : (o p : Ordering) → ordering_then o p ≡ Equal → (o ≡ Equal) × (p ≡ Equal)
tied_parts Less p tied = cc
tied_parts Equal p tied = (refl, tied)
tied_parts Greater p tied = cc

-- where elements that tie are equal, lists that tie are equal
exact_lists : {E : Type 0} (order : E → E → Ordering) → CmpEqualImpliesEq order → (xs ys : List E) → slice_cmp order xs ys ≡ Equal → xs ≡ ys
exact_lists order exact [] [] tied = refl
exact_lists order exact [] (y ∷ ys) tied = cc
exact_lists order exact (x ∷ xs) [] tied = cc
exact_lists order exact (x ∷ xs) (y ∷ ys) tied =
    let both = tied_parts (order x y) (slice_cmp order xs ys) tied in
    rw (exact x y both.0, exact_lists order exact xs ys both.1) refl

-- pairs of such values have the bytes of both, joined, and the order in which the first part that differs decides
pub pair_keep : {A B : Type 0} {is_first : A → Type 0} {first_text : A → List ℕ} {first_order : A → A → Ordering} {first_width : ℕ}
    {is_second : B → Type 0} {second_text : B → List ℕ} {second_order : B → B → Ordering} {second_width : ℕ}
    → KeepsOrder is_first first_text first_order first_width → KeepsOrder is_second second_text second_order second_width
    → KeepsOrder (Both is_first is_second) (both_texts first_text second_text) (λ x y. ordering_then (first_order x.0 y.0) (second_order x.1 y.1)) (first_width + second_width)
pair_keep {first_text = first_text} {first_order = first_order} {second_text = second_text} {second_order = second_order} first second =
    record {
      some = omega (arith, first.some);
      long = λ x x_in.
          let one = first.long x.0 x_in.0 in
          let other = second.long x.1 x_in.1 in
          omega (arith, length-append (first_text x.0) (second_text x.1), one, other);
      keeps = λ x y x_in y_in.
          let one = first.keeps x.0 y.0 x_in.0 y_in.0 in
          let other = second.keeps x.1 y.1 x_in.1 y_in.1 in
          rw (text_order-append (first_text x.0) (first_text y.0) (second_text x.1) (second_text y.1) (first.long x.0 x_in.0 ∙ sym (first.long y.0 y_in.0)), ← one, ← other) refl;
      exact = λ x y tied.
          let both = tied_parts (first_order x.0 y.0) (second_order x.1 y.1) tied in
          rw (first.exact x.0 y.0 both.0, second.exact x.1 y.1 both.1) refl;
    }

module _ {E : Type 0} {is_element : E → Type 0} {text : E → List ℕ} {order : E → E → Ordering} {width : ℕ} (laws : KeepsOrder is_element text order width) where
  pub length-joined : (xs : List E) → All is_element xs → length (joined text xs) ≡ length xs * width
  length-joined [] all = omega arith
  length-joined (x ∷ xs) all =
      let first = laws.long x (All-head is_element x xs all) in
      let rest = length-joined xs (All-tail is_element x xs all) in
      omega (arith, length-append (text x) (joined text xs), first, rest)

  -- elements in the order of their bytes keep it when they are joined
  pub joined_keep : (xs ys : List E) → All is_element xs → All is_element ys → slice_cmp order xs ys ≡ text_order (joined text xs) (joined text ys)
  joined_keep [] [] x_in y_in = refl
  joined_keep [] (y ∷ ys) x_in y_in =
      let first = laws.long y (All-head is_element y ys y_in) in
      sym (above_empty (text y ++ joined text ys) (omega (arith, length-append (text y) (joined text ys), first, laws.some)))
    where
      above_empty : (bs : List ℕ) → 0 < length bs → text_order [] bs ≡ Less
      above_empty [] more = absurd (omega arith)
      above_empty (b ∷ bs) more = refl
  joined_keep (x ∷ xs) [] x_in y_in =
      let first = laws.long x (All-head is_element x xs x_in) in
      sym (below_empty (text x ++ joined text xs) (omega (arith, length-append (text x) (joined text xs), first, laws.some)))
    where
      below_empty : (bs : List ℕ) → 0 < length bs → text_order bs [] ≡ Greater
      below_empty [] more = absurd (omega arith)
      below_empty (b ∷ bs) more = refl
  joined_keep (x ∷ xs) (y ∷ ys) x_in y_in =
      let x_first = All-head is_element x xs x_in in
      let y_first = All-head is_element y ys y_in in
      let first = laws.keeps x y x_first y_first in
      let rest = joined_keep xs ys (All-tail is_element x xs x_in) (All-tail is_element y ys y_in) in
      rw (text_order-append (text x) (text y) (joined text xs) (joined text ys) (laws.long x x_first ∙ sym (laws.long y y_first)), ← first, ← rest) refl

  -- two values with the same bytes are equal
  pub same_from_text : (x y : E) → is_element x → is_element y → {bytes : List ℕ} → bytes ≡ text x → bytes ≡ text y → x ≡ y
  same_from_text x y x_in y_in x_text y_text =
      laws.exact x y (laws.keeps x y x_in y_in ∙ rw (sym x_text ∙ y_text) (tied_itself nat_list_cmp_total (text y)))

  -- two lists with the same joined bytes are equal
  pub same_from_joined : (xs ys : List E) → All is_element xs → All is_element ys → {bytes : List ℕ} → bytes ≡ joined text xs → bytes ≡ joined text ys → xs ≡ ys
  same_from_joined xs ys x_in y_in x_text y_text =
      exact_lists order laws.exact xs ys (joined_keep xs ys x_in y_in ∙ rw (sym x_text ∙ y_text) (tied_itself nat_list_cmp_total (joined text ys)))

  -- of the texts of two elements none is a proper prefix of the other
  pub prefix_is_whole : (x y : E) → is_element x → is_element y → IsPrefixOf (text x) (text y) → text x ≡ text y
  prefix_is_whole x y x_in y_in = prefix_of_length width (text x) (text y) (laws.long x x_in) (laws.long y y_in)

  -- nor of the joined texts of two arrays of one length
  pub joined_prefix_is_whole : (n : ℕ) (xs ys : List E) → IsArray n is_element xs → IsArray n is_element ys → IsPrefixOf (joined text xs) (joined text ys) → joined text xs ≡ joined text ys
  joined_prefix_is_whole n xs ys x_in y_in =
      prefix_of_length (n * width) (joined text xs) (joined text ys) (length-joined xs x_in.1 ∙ ap (λ k. k * width) x_in.0) (length-joined ys y_in.1 ∙ ap (λ k. k * width) y_in.0)

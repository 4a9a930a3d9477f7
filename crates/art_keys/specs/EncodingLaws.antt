-- Encodings keep the order of keys, and none is a proper prefix of another. No public clause cites this.
use Rattle.std.specs.Prelude.{◌≡◌, ℕ, suc, ◌-◌, ◌<◌, List, [], ◌∷◌, ◌++◌, length, refl, Bool, true, false, Option, Some, None, ℤ}
use Rattle.std.specs.Ordering.{nat_cmp, bool_cmp, ordering_then}
use Rattle.std.specs.declared.cmp.Ordering.{Ordering}
use Rattle.std.specs.declared.cmp.Ordering.TheVariants.{Less, Equal, Greater}
use Rattle.std.specs.Cmp.{nat_cmp_is}
use Rattle.std.proofs.Common.{sym, ap, ◌∙◌, arith, append_assoc, length-append}
use Rattle.std.proofs.lemmas.Cmp.{ranked, by_ranked, tied_itself, nat_list_cmp_total}
use Rattle.std.proofs.lemmas.List.{append-nil, get_or-map, length-map}
use Rattle.std.proofs.lemmas.Grind.{get_or_default_zero}
use Rattle.std.proofs.lemmas.List.Elements.{All-nil, All-cons, All-head, All-tail}
use Rattle.art_bytes.specs.Text.{IsByte, IsText, text_order}
use Rattle.art_mapped.specs.DigitLaws.{then_assoc, AreBytes-digits}
use Rattle.art_mapped.specs.Numbers.{digits, signed_text}
use Rattle.std.specs.Option.{option_cmp}
use Rattle.std.specs.declared.cmp.Reverse.{Reverse}
use Rattle.art_mapped.specs.Elements.{KeepsOrder}
use Rattle.art_mapped.specs.SequenceLaws.{text_order-append}
use Rattle.art_keys.specs.Encoding.{SortedBy, Agrees, complemented, option_encoded, IsOptionKey, bool_encoded}

-- nothing decides before what follows
pub then_equal : (o : Ordering) → ordering_then o Equal ≡ o
then_equal Less = refl
then_equal Equal = refl
then_equal Greater = refl

-- encodings sort as the keys do
pub order_of_encodings : (o : Ordering) (a b : List ℕ) → SortedBy o a b → o ≡ text_order a b
order_of_encodings o a b sorted = sym (then_equal o) ∙ sym (sorted [] []) ∙ rw (append-nil a, append-nil b) refl

-- where one encoding is a prefix of another, the keys tie and nothing follows
pub prefix_ties : (o : Ordering) (a rest : List ℕ) → SortedBy o a (a ++ rest) → (o ≡ Equal) × (rest ≡ [])
prefix_ties o a rest sorted = by o rest (sym (sorted rest []) ∙ rw append-nil (tied_itself nat_list_cmp_total (a ++ rest)))
  where
    by : (o : Ordering) (rest : List ℕ) → ordering_then o (text_order rest []) ≡ Equal → (o ≡ Equal) × (rest ≡ [])
    by Less rest tied = cc
    by Equal [] tied = (refl, refl)
    by Equal (x ∷ rest) tied = cc
    by Greater rest tied = cc

-- what compares as the encodings do agrees with them
pub same_agrees : (o p : Ordering) → o ≡ p → Agrees p o
same_agrees o Less same = same
same_agrees o Equal same = tt
same_agrees o Greater same = same

pub sorted_agrees : (o : Ordering) (a b : List ℕ) → SortedBy o a b → Agrees (text_order a b) o
sorted_agrees o a b sorted = same_agrees o (text_order a b) (order_of_encodings o a b sorted)

-- encodings of one width
pub width_sorts : {E : Type 0} {is_in_range : E → Type 0} {text_of : E → List ℕ} {order : E → E → Ordering} {width : ℕ}
    → KeepsOrder is_in_range text_of order width → (x y : E) → is_in_range x → is_in_range y → SortedBy (order x y) (text_of x) (text_of y)
width_sorts {text_of = text_of} laws x y x_in y_in r s =
    text_order-append (text_of x) (text_of y) r s (laws.long x x_in ∙ sym (laws.long y y_in)) ∙ ap (λ o. ordering_then o (text_order r s)) (sym (laws.keeps x y x_in y_in))

-- one encoding after another
pub joined_sort : (o p : Ordering) (a b c d : List ℕ) → SortedBy o a b → SortedBy p c d → SortedBy (ordering_then o p) (a ++ c) (b ++ d)
joined_sort o p a b c d first later r s =
    rw (append_assoc a c r, append_assoc b d s, first (c ++ r) (d ++ s), later r s) (sym (then_assoc o p (text_order r s)))

-- a query after one whose encodings sort
pub joined_agree : (o p : Ordering) (a b c d : List ℕ) → SortedBy o a b → Agrees (text_order c d) p → Agrees (text_order (a ++ c) (b ++ d)) (ordering_then o p)
joined_agree o p a b c d first later = rw (first c d) (by o)
  where
    by : (o : Ordering) → Agrees (ordering_then o (text_order c d)) (ordering_then o p)
    by Less = refl
    by Equal = later
    by Greater = refl

-- the length of a later part
pub later_short : (a b : List ℕ) (most : ℕ) → length (a ++ b) < most → length b < most
later_short a b most short = omega (arith, length-append a b)

-- the other way round
order_of_complements : (x y : ℕ) → IsByte x → IsByte y → nat_cmp (255 - x) (255 - y) ≡ nat_cmp y x
order_of_complements x y x_byte y_byte =
    sym (nat_cmp_is (255 - x) (255 - y) (nat_cmp y x) (by_ranked (y < x) (y ≡ x) (x < y) (nat_cmp y x) (ranked y x (nat_cmp y x) refl)
    (λ is less. rw is (omega arith))
    (λ is same. rw is (omega arith))
    (λ is greater. rw is (omega arith))))

greater_less : Less ≡ Greater → ⊥
greater_less same = cc

complement_step : (o : Ordering) (x y : ℕ) (a b : List ℕ) → IsByte x → IsByte y → SortedBy o (x ∷ a) (y ∷ b) → (SortedBy o a b → SortedBy o (complemented b) (complemented a))
    → (first : Ordering) → nat_cmp x y ≡ first → SortedBy o (complemented (y ∷ b)) (complemented (x ∷ a))
complement_step o x y a b x_byte y_byte sorted later Less is r s =
    let less : o ≡ Less = order_of_encodings o (x ∷ a) (y ∷ b) sorted ∙ rw is refl in
    rw (order_of_complements y x y_byte x_byte, is, less) refl
complement_step o x y a b x_byte y_byte sorted later Equal is r s =
    let rest : SortedBy o a b = λ r s. (rw is at (sorted r s)) in
    rw (order_of_complements y x y_byte x_byte, is) (later rest r s)
complement_step o x y a b x_byte y_byte sorted later Greater is r s =
    let more : o ≡ Greater = order_of_encodings o (x ∷ a) (y ∷ b) sorted ∙ rw is refl in
    rw (order_of_complements y x y_byte x_byte, is, more) refl

pub complements_sort : (o : Ordering) (a b : List ℕ) → IsText a → IsText b → SortedBy o a b → SortedBy o (complemented b) (complemented a)
complements_sort o [] [] a_text b_text sorted =
    let tied : o ≡ Equal = order_of_encodings o [] [] sorted in
    λ r s. rw tied refl
complements_sort o [] (y ∷ b) a_text b_text sorted =
    -- what follows the first encoding would decide
    let less : o ≡ Less = order_of_encodings o [] (y ∷ b) sorted in
    let over : text_order (suc y ∷ []) (y ∷ b ++ []) ≡ Less = sorted (suc y ∷ []) [] ∙ rw less refl in
    let is : nat_cmp (suc y) y ≡ Greater = sym (nat_cmp_is (suc y) y Greater (omega arith)) in
    absurd (greater_less (sym (rw is at over)))
complements_sort o (x ∷ a) [] a_text b_text sorted =
    let more : o ≡ Greater = order_of_encodings o (x ∷ a) [] sorted in
    let over : text_order (x ∷ a ++ []) (suc x ∷ []) ≡ Greater = sorted [] (suc x ∷ []) ∙ rw more refl in
    let is : nat_cmp x (suc x) ≡ Less = sym (nat_cmp_is x (suc x) Less (omega arith)) in
    absurd (greater_less (rw is at over))
complements_sort o (x ∷ a) (y ∷ b) a_text b_text sorted =
    let x_byte : IsByte x = All-head IsByte x a a_text in
    let y_byte : IsByte y = All-head IsByte y b b_text in
    complement_step o x y a b x_byte y_byte sorted (complements_sort o a b (All-tail IsByte x a a_text) (All-tail IsByte y b b_text)) (nat_cmp x y) refl

-- the digits of a number are bytes
pub digits_are_bytes : (width n : ℕ) → IsText (digits width n)
digits_are_bytes width n k d here = rw (get_or_default_zero (digits width n) k d here) (AreBytes-digits width n k)

-- and so are the differences from 255
pub complements_are_bytes : (bytes : List ℕ) → IsText (complemented bytes)
complements_are_bytes bytes k d here =
    let inside : k < length bytes = rw (length-map bytes (λ byte. 255 - byte)) at here in
    rw (get_or-map (λ byte. 255 - byte) bytes k 0 d inside) (omega arith)

pub signed_are_bytes : (width : ℕ) (z : ℤ) → IsText (signed_text width z)
signed_are_bytes width z = digits_are_bytes width _

-- byte strings of one length
pub arrays_sort : (count : ℕ) (xs ys : List ℕ) → length xs ≡ count → length ys ≡ count → SortedBy (text_order xs ys) xs ys
arrays_sort count xs ys x_long y_long r s = text_order-append xs ys r s (x_long ∙ sym y_long)

-- optional keys
pub options_sort : {K : Type 0} {is_key : K → Type 0} (encoded : K → List ℕ) (order : K → K → Ordering)
    → ((x y : K) → is_key x → is_key y → SortedBy (order x y) (encoded x) (encoded y))
    → (x y : Option K) → IsOptionKey is_key x → IsOptionKey is_key y → SortedBy (option_cmp order x y) (option_encoded encoded x) (option_encoded encoded y)
options_sort encoded order sorted None None x_is y_is = λ r s. refl
options_sort encoded order sorted None (Some y) x_is y_is = λ r s. refl
options_sort encoded order sorted (Some x) None x_is y_is = λ r s. refl
options_sort encoded order sorted (Some x) (Some y) x_is y_is = sorted x y x_is y_is

pub options_are_bytes : {K : Type 0} {is_key : K → Type 0} (encoded : K → List ℕ)
    → ((x : K) → is_key x → IsText (encoded x)) → (x : Option K) → IsOptionKey is_key x → IsText (option_encoded encoded x)
options_are_bytes encoded are None x_is = All-cons IsByte 0 [] (omega arith) (All-nil IsByte)
options_are_bytes encoded are (Some x) x_is = All-cons IsByte 1 (encoded x) (omega arith) (are x x_is)

-- the order of keys of parts is that of `Ord`, where the order of each part is
pub pair_order : {A B : Type 0} {p q : A → A → Ordering} {r s : B → B → Ordering} → p ≡ q → r ≡ s
    → ◌≡◌ {A = A × B → A × B → Ordering} (λ x y. ordering_then (p x.0 y.0) (r x.1 y.1)) (λ x y. ordering_then (q x.0 y.0) (s x.1 y.1))
pair_order first later = λ i x y. ordering_then (first i x.0 y.0) (later i x.1 y.1)

pub triple_order : {A B C : Type 0} {p q : A → A → Ordering} {r s : B → B → Ordering} {t u : C → C → Ordering} → p ≡ q → r ≡ s → t ≡ u
    → ◌≡◌ {A = A × B × C → A × B × C → Ordering} (λ x y. ordering_then (ordering_then (p x.0 y.0) (r x.1 y.1)) (t x.2 y.2)) (λ x y. ordering_then (ordering_then (q x.0 y.0) (s x.1 y.1)) (u x.2 y.2))
triple_order first second third = λ i x y. ordering_then (ordering_then (first i x.0 y.0) (second i x.1 y.1)) (third i x.2 y.2)

pub reversed_order : {K : Type 0} {p q : K → K → Ordering} → p ≡ q → ◌≡◌ {A = Reverse K → Reverse K → Ordering} (λ x y. p y.0 x.0) (λ x y. q y.0 x.0)
reversed_order same = λ i x y. same i y.0 x.0

pub option_order : {K : Type 0} {p q : K → K → Ordering} → p ≡ q → option_cmp p ≡ option_cmp q
option_order same = ap (λ order. option_cmp order) same

pub order_of_4 : {A B C D : Type 0} {ap aq : A → A → Ordering} {bp bq : B → B → Ordering} {cp cq : C → C → Ordering} {dp dq : D → D → Ordering} → ap ≡ aq → bp ≡ bq → cp ≡ cq → dp ≡ dq
    → ◌≡◌ {A = A × B × C × D → A × B × C × D → Ordering} (λ x y. ordering_then (ordering_then (ordering_then (ap x.0 y.0) (bp x.1 y.1)) (cp x.2 y.2)) (dp x.3 y.3)) (λ x y. ordering_then (ordering_then (ordering_then (aq x.0 y.0) (bq x.1 y.1)) (cq x.2 y.2)) (dq x.3 y.3))
order_of_4 first second third fourth = λ i x y. ordering_then (ordering_then (ordering_then (first i x.0 y.0) (second i x.1 y.1)) (third i x.2 y.2)) (fourth i x.3 y.3)

pub order_of_5 : {A B C D E : Type 0} {ap aq : A → A → Ordering} {bp bq : B → B → Ordering} {cp cq : C → C → Ordering} {dp dq : D → D → Ordering} {ep eq : E → E → Ordering} → ap ≡ aq → bp ≡ bq → cp ≡ cq → dp ≡ dq → ep ≡ eq
    → ◌≡◌ {A = A × B × C × D × E → A × B × C × D × E → Ordering} (λ x y. ordering_then (ordering_then (ordering_then (ordering_then (ap x.0 y.0) (bp x.1 y.1)) (cp x.2 y.2)) (dp x.3 y.3)) (ep x.4 y.4)) (λ x y. ordering_then (ordering_then (ordering_then (ordering_then (aq x.0 y.0) (bq x.1 y.1)) (cq x.2 y.2)) (dq x.3 y.3)) (eq x.4 y.4))
order_of_5 first second third fourth fifth = λ i x y. ordering_then (ordering_then (ordering_then (ordering_then (first i x.0 y.0) (second i x.1 y.1)) (third i x.2 y.2)) (fourth i x.3 y.3)) (fifth i x.4 y.4)

pub order_of_6 : {A B C D E F : Type 0} {ap aq : A → A → Ordering} {bp bq : B → B → Ordering} {cp cq : C → C → Ordering} {dp dq : D → D → Ordering} {ep eq : E → E → Ordering} {fp fq : F → F → Ordering} → ap ≡ aq → bp ≡ bq → cp ≡ cq → dp ≡ dq → ep ≡ eq → fp ≡ fq
    → ◌≡◌ {A = A × B × C × D × E × F → A × B × C × D × E × F → Ordering} (λ x y. ordering_then (ordering_then (ordering_then (ordering_then (ordering_then (ap x.0 y.0) (bp x.1 y.1)) (cp x.2 y.2)) (dp x.3 y.3)) (ep x.4 y.4)) (fp x.5 y.5)) (λ x y. ordering_then (ordering_then (ordering_then (ordering_then (ordering_then (aq x.0 y.0) (bq x.1 y.1)) (cq x.2 y.2)) (dq x.3 y.3)) (eq x.4 y.4)) (fq x.5 y.5))
order_of_6 first second third fourth fifth sixth = λ i x y. ordering_then (ordering_then (ordering_then (ordering_then (ordering_then (first i x.0 y.0) (second i x.1 y.1)) (third i x.2 y.2)) (fourth i x.3 y.3)) (fifth i x.4 y.4)) (sixth i x.5 y.5)

-- truth values
pub bools_sort : (x y : Bool) → SortedBy (bool_cmp x y) (bool_encoded x) (bool_encoded y)
bools_sort false false = λ r s. refl
bools_sort false true = λ r s. refl
bools_sort true false = λ r s. refl
bools_sort true true = λ r s. refl

pub bools_are_bytes : (x : Bool) → IsText (bool_encoded x)
bools_are_bytes false = All-cons IsByte 0 [] (omega arith) (All-nil IsByte)
bools_are_bytes true = All-cons IsByte 1 [] (omega arith) (All-nil IsByte)

-- Several parts of a tuple: they come apart again, and keep their order. No public clause cites this.
use Rattle.std.specs.Prelude.{◌≡◌, ◌↔◌, ℕ, ◌+◌, ◌≤◌, List, [], ◌∷◌, ◌++◌, length, refl}
use Rattle.std.specs.Ordering.{ordering_then}
use Rattle.std.specs.declared.cmp.Ordering.{Ordering}
use Rattle.std.specs.declared.cmp.Ordering.TheVariants.{Less, Equal, Greater}
use Rattle.std.proofs.Common.{sym, ap, ◌∙◌, subst, arith, length-append, append_assoc}
use Rattle.std.proofs.lemmas.List.{append-nil}
use Rattle.std.proofs.lemmas.List.Elements.{All-nil, All-cons, All-append}
use Rattle.std.proofs.Math.Logic.{∥∥₁_map, ∥∥₁_map₂}
use Rattle.art_bytes.specs.Text.{IsPrefixOf}
use Rattle.art_bytes.specs.Laws.{prefix_of_length}
use Rattle.art_mapped.specs.Mapping.{StandsForSome}
use Rattle.art_mapped.specs.Orders.{FirstUnequalIs, ByFirstPart}
use Rattle.art_mapped.specs.SequenceLaws.{text_order-append}
use Rattle.art_mapped.specs.Tuples.{IsPart, IsTextOf, Both, both_texts, AreSameBoth, StandsForBoth, TextLaws, OrderLaws, KeyLaws}

-- joined texts are equal part by part where the first parts have one length
append_split : (a b c d : List ℕ) → length a ≡ length c → a ++ b ≡ c ++ d → (a ≡ c) × (b ≡ d)
append_split [] b [] d long same = (refl, same)
append_split [] b (y ∷ c) d long same = absurd (omega arith)
append_split (x ∷ a) b [] d long same = absurd (omega arith)
append_split (x ∷ a) b (y ∷ c) d long same =
    let first : x ≡ y = cc in
    let later : a ++ b ≡ c ++ d = cc in
    let rest = append_split a b c d (omega arith) later in
    (rw (first, rest.0) refl, rest.1)

-- a key with the text that stands for a part's value stands for it
pub key_stands : {K D : Type 0} {is_key : K → Type 0} {text : K → List ℕ} (stands_for : K → D → Type 0) → ((a b : K) → is_key a → is_key b → text a ≡ text b → a ≡ b)
    → (key : K) (given : List ℕ) (value : D) → is_key key → text key ≡ given → IsTextOf is_key text stands_for given value → stands_for key value
key_stands {K} stands_for one_key key given value is same of =
    let At : K → Type 0 = λ k. stands_for k value in
    subst At (one_key of.0 key of.1 is (of.2 ∙ sym same)) of.3

-- the laws of one part
pub part_laws : {K D : Type 0} {is_key : K → Type 0} {text : K → List ℕ} {is_in_domain : D → Type 0} {text_of : D → List ℕ} {stands_for : K → D → Type 0} {are_same : D → D → Type 0} (width : ℕ)
    → ((bytes : K) (value : D) → is_in_domain value → stands_for bytes value → text bytes ≡ text_of value)
    → ((a b : K) → is_key a → is_key b → text a ≡ text b → a ≡ b)
    → ((bytes : K) (x y : D) → is_in_domain x → is_in_domain y → stands_for bytes x → stands_for bytes y → are_same x y)
    → TextLaws (IsPart is_in_domain text_of (IsTextOf is_key text stands_for) width) text_of (IsTextOf is_key text stands_for) are_same width
part_laws {stands_for = stands_for} width has_text one_key reads_one =
    record {
      has_text = λ given value v_in of. sym of.2 ∙ has_text of.0 value v_in.0 of.3;
      long = λ value v_in. v_in.1;
      stands = λ value v_in. v_in.2;
      reads_one = λ given x y x_in y_in x_of y_of. reads_one x_of.0 x y x_in.0 y_in.0 x_of.3 (key_stands stands_for one_key x_of.0 given y x_of.1 x_of.2 y_of);
    }

-- a key of one part has its text, which is some value's exactly where the key is
pub part_key_laws : {K D : Type 0} {is_key : K → Type 0} {text : K → List ℕ} {is_in_domain : D → Type 0} {text_of : D → List ℕ} {stands_for : K → D → Type 0} {width : ℕ}
    → ((bytes : K) (value : D) → is_in_domain value → stands_for bytes value → text bytes ≡ text_of value)
    → ((a b : K) → is_key a → is_key b → text a ≡ text b → a ≡ b)
    → ((key : K) → is_key key → length (text key) ≡ width)
    → KeyLaws (IsPart is_in_domain text_of (IsTextOf is_key text stands_for) width) (IsTextOf is_key text stands_for) is_key text (StandsForSome is_in_domain stands_for) width
part_key_laws {text = text} {stands_for = stands_for} has_text one_key long =
    record {
      long = long;
      values = λ key is. (
        λ some. ∥∥₁_map some (λ of. (of.0, of.1.0, key_stands stands_for one_key key (text key) of.0 is refl of.2)),
        λ some. ∥∥₁_map some (λ of.
            let its_text = has_text key of.0 of.1 of.2 in
            (of.0, (of.1, sym (ap length its_text) ∙ long key is, (key, is, its_text, of.2)), (key, is, refl, of.2))),
      );
    }

module _ {A B : Type 0} {front_in : A → Type 0} {front_text : A → List ℕ} {front_stands : List ℕ → A → Type 0} {front_same : A → A → Type 0} {front_width : ℕ}
    {last_in : B → Type 0} {last_text : B → List ℕ} {last_stands : List ℕ → B → Type 0} {last_same : B → B → Type 0} {last_width : ℕ}
    (front : TextLaws front_in front_text front_stands front_same front_width) (last : TextLaws last_in last_text last_stands last_same last_width) where
  -- a text cut before the last part stands for the parts
  pub split_both : (text x y : List ℕ) (value : A × B) → last_in value.1 → StandsForBoth front_stands last_stands text value → text ≡ x ++ y → length y ≡ last_width
      → front_stands x value.0 × last_stands y value.1
  split_both text x y value v_in of same long =
      let of_long : length of.1 ≡ last_width = ap length (last.has_text of.1 value.1 v_in of.4) ∙ last.long value.1 v_in in
      let all : of.0 ++ of.1 ≡ x ++ y = sym of.2 ∙ same in
      let size : length (of.0 ++ of.1) ≡ length (x ++ y) = ap length all in
      let front_long : length of.0 ≡ length x = omega (arith, length-append of.0 of.1, length-append x y, size, of_long, long) in
      let both = append_split of.0 of.1 x y front_long all in
      let Front : List ℕ → Type 0 = λ a. front_stands a value.0 in
      let Last : List ℕ → Type 0 = λ b. last_stands b value.1 in
      (subst Front both.0 of.3, subst Last both.1 of.4)

  -- in a text that stands for the parts, the last part has its width
  pub last_long : (text : List ℕ) (value : A × B) → last_in value.1 → (of : StandsForBoth front_stands last_stands text value) → length of.1 ≡ last_width
  last_long text value v_in of = ap length (last.has_text of.1 value.1 v_in of.4) ∙ last.long value.1 v_in

  -- each side of the cut stands for some value
  pub cut : (text x y : List ℕ) → StandsForSome (Both front_in last_in) (StandsForBoth front_stands last_stands) text → text ≡ x ++ y → length y ≡ last_width
      → StandsForSome front_in front_stands x × StandsForSome last_in last_stands y
  cut text x y some same long = (
    ∥∥₁_map some (λ of. let sides = split_both text x y of.0 of.1.1 of.2 same long in (of.0.0, of.1.0, sides.0)),
    ∥∥₁_map some (λ of. let sides = split_both text x y of.0 of.1.1 of.2 same long in (of.0.1, of.1.1, sides.1)),
  )

  -- and both together stand for one
  pub joined_again : (text x y : List ℕ) → StandsForSome front_in front_stands x → StandsForSome last_in last_stands y → text ≡ x ++ y
      → StandsForSome (Both front_in last_in) (StandsForBoth front_stands last_stands) text
  joined_again text x y front_some last_some same =
      ∥∥₁_map₂ front_some last_some (λ a b. ((a.0, b.0), (a.1, b.1), (x, y, same, a.2, b.2)))

  -- the laws of the keys of all parts
  pub both_key_laws : {FrontKeys LastKeys : Type 0} {front_are_keys : FrontKeys → Type 0} {front_key_text : FrontKeys → List ℕ} {front_are_values : FrontKeys → Type 0}
      {last_are_keys : LastKeys → Type 0} {last_key_text : LastKeys → List ℕ} {last_are_values : LastKeys → Type 0}
      → KeyLaws front_in front_stands front_are_keys front_key_text front_are_values front_width → KeyLaws last_in last_stands last_are_keys last_key_text last_are_values last_width
      → KeyLaws (Both front_in last_in) (StandsForBoth front_stands last_stands) (Both front_are_keys last_are_keys) (both_texts front_key_text last_key_text) (Both front_are_values last_are_values) (front_width + last_width)
  both_key_laws {front_key_text = front_key_text} {last_key_text = last_key_text} front_keys last_keys =
      record {
        long = λ keys are.
            let first = front_keys.long keys.0 are.0 in
            let later = last_keys.long keys.1 are.1 in
            omega (arith, length-append (front_key_text keys.0) (last_key_text keys.1), first, later);
        values = λ keys are.
            let x = front_key_text keys.0 in
            let y = last_key_text keys.1 in
            let first = front_keys.values keys.0 are.0 in
            let later = last_keys.values keys.1 are.1 in (
              λ some.
                  let sides = cut (x ++ y) x y some refl (last_keys.long keys.1 are.1) in
                  (first.0 sides.0, later.0 sides.1),
              λ both. joined_again (x ++ y) x y (first.1 both.0) (later.1 both.1) refl,
            );
      }

  -- the laws of all parts
  pub both_laws : TextLaws (Both front_in last_in) (both_texts front_text last_text) (StandsForBoth front_stands last_stands) (AreSameBoth front_same last_same) (front_width + last_width)
  both_laws =
      record {
        has_text = λ text value v_in of. of.2 ∙ rw (front.has_text of.0 value.0 v_in.0 of.3, last.has_text of.1 value.1 v_in.1 of.4) refl;
        long = λ value v_in.
            let first = front.long value.0 v_in.0 in
            let later = last.long value.1 v_in.1 in
            omega (arith, length-append (front_text value.0) (last_text value.1), first, later);
        stands = λ value v_in. (front_text value.0, last_text value.1, refl, front.stands value.0 v_in.0, last.stands value.1 v_in.1);
        reads_one = λ text x y x_in y_in x_of y_of.
            let y_too = split_both text x_of.0 x_of.1 y y_in.1 y_of x_of.2 (last_long text x x_in.1 x_of) in
            (front.reads_one x_of.0 x.0 y.0 x_in.0 y_in.0 x_of.3 y_too.0, last.reads_one x_of.1 x.1 y.1 x_in.1 y_in.1 x_of.4 y_too.1);
      }

  -- the first part that differs decides
  pub both_order : {front_order : A → A → Ordering} {last_order : B → B → Ordering} → OrderLaws front_in front_text front_order → OrderLaws last_in last_text last_order
      → OrderLaws (Both front_in last_in) (both_texts front_text last_text) (λ x y. ordering_then (front_order x.0 y.0) (last_order x.1 y.1))
  both_order front_laws last_laws =
      record {
        keeps = λ x y x_in y_in.
            let first = front_laws.keeps x.0 y.0 x_in.0 y_in.0 in
            let later = last_laws.keeps x.1 y.1 x_in.1 y_in.1 in
            rw (text_order-append (front_text x.0) (front_text y.0) (last_text x.1) (last_text y.1) (front.long x.0 x_in.0 ∙ sym (front.long y.0 y_in.0)), ← first, ← later) refl;
      }

-- values with the same text are equal, since it stands for both
pub same_from_one_text : {D : Type 0} {is_in_domain : D → Type 0} {text_of : D → List ℕ} {stands_for : List ℕ → D → Type 0} {are_same : D → D → Type 0} {width : ℕ}
    → TextLaws is_in_domain text_of stands_for are_same width → (x y : D) → is_in_domain x → is_in_domain y → text_of x ≡ text_of y → are_same x y
same_from_one_text {text_of = text_of} {stands_for = stands_for} laws x y x_in y_in same =
    let At : List ℕ → Type 0 = λ text. stands_for text y in
    laws.reads_one (text_of x) x y x_in y_in (laws.stands x x_in) (subst At (sym same) (laws.stands y y_in))

-- of two texts of one width none is a proper prefix of the other
pub wide_prefix_is_whole : {D : Type 0} {is_in_domain : D → Type 0} {text_of : D → List ℕ} {stands_for : List ℕ → D → Type 0} {are_same : D → D → Type 0} {width : ℕ}
    → TextLaws is_in_domain text_of stands_for are_same width → (x y : D) → is_in_domain x → is_in_domain y → IsPrefixOf (text_of x) (text_of y) → text_of x ≡ text_of y
wide_prefix_is_whole {text_of = text_of} {width = width} laws x y x_in y_in = prefix_of_length width (text_of x) (text_of y) (laws.long x x_in) (laws.long y y_in)

-- whether bytes stand for some tuple depends on their text alone
pub kept_by_items : {D N : Type 0} (nested : D → N) (is_in_domain : N → Type 0) (stands_for : List ℕ → N → Type 0) (a b : List ℕ) → a ≡ b
    → StandsForSome (λ value. is_in_domain (nested value)) (λ text value. stands_for text (nested value)) a
    → StandsForSome (λ value. is_in_domain (nested value)) (λ text value. stands_for text (nested value)) b
kept_by_items nested is_in_domain stands_for a b same some =
    let At : List ℕ → Type 0 = StandsForSome (λ value. is_in_domain (nested value)) (λ text value. stands_for text (nested value)) in
    subst At same some

-- a list is a part's text exactly where the part has the value and the list stands for it
pub part_text : {K D Is : Type 0} {is_key : K → Type 0} {text : K → List ℕ} {is_in_domain : D → Type 0} {text_of : D → List ℕ} {stands_for : K → D → Type 0} {width : ℕ}
    → ((bytes : K) (value : D) → is_in_domain value → stands_for bytes value → text bytes ≡ text_of value)
    → ((key : K) → is_key key → length (text key) ≡ width) → (given : List ℕ) (value : D)
    → Is ↔ ((bytes : K) × is_key bytes × (text bytes ≡ given) × is_in_domain value × stands_for bytes value)
    → Is ↔ (IsPart is_in_domain text_of (IsTextOf is_key text stands_for) width value × IsTextOf is_key text stands_for given value)
part_text has_text long given value is = (
  λ a_text.
      let of = is.0 a_text in
      let its_text = has_text of.0 value of.3 of.4 in
      ((of.3, sym (ap length its_text) ∙ long of.0 of.1, (of.0, of.1, its_text, of.4)), (of.0, of.1, of.2, of.4)),
  λ both.
      let part = both.0 in
      let of = both.1 in
      is.1 (of.0, of.1, of.2, part.0, of.3),
)

-- a list is the parts' text, where it is one of those before the last and then one of the last
pub both_text : {A B : Type 0} {front_is : List ℕ → A → Type 0} {last_is : List ℕ → B → Type 0} {front_in : A → Type 0} {front_stands : List ℕ → A → Type 0} {last_in : B → Type 0} {last_stands : List ℕ → B → Type 0} (most : ℕ)
    → ((text : List ℕ) (value : A) → length text ≤ most → front_is text value ↔ (front_in value × front_stands text value))
    → ((text : List ℕ) (value : B) → length text ≤ most → last_is text value ↔ (last_in value × last_stands text value))
    → (text : List ℕ) (value : A × B) → length text ≤ most
    → StandsForBoth front_is last_is text value ↔ (Both front_in last_in value × StandsForBoth front_stands last_stands text value)
both_text most front last text value fits = (
  λ of.
      let size = ap length of.2 in
      let sum = length-append of.0 of.1 in
      let first = (front of.0 value.0 (omega (arith, sum, size, fits))).0 of.3 in
      let later = (last of.1 value.1 (omega (arith, sum, size, fits))).0 of.4 in
      ((first.0, later.0), (of.0, of.1, of.2, first.1, later.1)),
  λ both.
      let ins = both.0 in
      let of = both.1 in
      let size = ap length of.2 in
      let sum = length-append of.0 of.1 in
      let first = (front of.0 value.0 (omega (arith, sum, size, fits))).1 (ins.0, of.3) in
      let later = (last of.1 value.1 (omega (arith, sum, size, fits))).1 (ins.1, of.4) in
      (of.0, of.1, of.2, first, later),
)

-- one part decides by itself
first_part : (o : Ordering) → ByFirstPart o (o ∷ [])
first_part Less = record { equal = []; later = []; are_equal = All-nil (λ (part : Ordering). part ≡ Equal); first = refl }
first_part Equal = All-cons (λ (part : Ordering). part ≡ Equal) Equal [] refl (All-nil (λ (part : Ordering). part ≡ Equal))
first_part Greater = record { equal = []; later = []; are_equal = All-nil (λ (part : Ordering). part ≡ Equal); first = refl }

-- a later part does not change what was decided
still_first : (o p : Ordering) (parts : List Ordering) → FirstUnequalIs o parts → FirstUnequalIs o (parts ++ p ∷ [])
still_first o p parts at =
    record { equal = at.equal; later = at.later ++ p ∷ []; are_equal = at.are_equal; first = ap (λ before. before ++ p ∷ []) at.first ∙ append_assoc at.equal (o ∷ at.later) (p ∷ []) }

-- one more part
next_part : (o p : Ordering) (parts : List Ordering) → ByFirstPart o parts → ByFirstPart (ordering_then o p) (parts ++ p ∷ [])
next_part Less p parts at = still_first Less p parts at
next_part Greater p parts at = still_first Greater p parts at
next_part Equal Less parts at = record { equal = parts; later = []; are_equal = at; first = refl }
next_part Equal Equal parts at = All-append (λ (part : Ordering). part ≡ Equal) parts (Equal ∷ []) at (first_part Equal)
next_part Equal Greater parts at = record { equal = parts; later = []; are_equal = at; first = refl }

-- what the comparisons of all parts return together
abbrev pub then_all : Ordering → List Ordering → Ordering
then_all order [] = order
then_all order (next ∷ rest) = then_all (ordering_then order next) rest

later_parts : (order : Ordering) (before rest : List Ordering) → ByFirstPart order before → ByFirstPart (then_all order rest) (before ++ rest)
later_parts order before [] at = subst (ByFirstPart order) (sym (append-nil before)) at
later_parts order before (next ∷ rest) at =
    subst (ByFirstPart (then_all (ordering_then order next) rest)) (append_assoc before (next ∷ []) rest) (later_parts (ordering_then order next) (before ++ next ∷ []) rest (next_part order next before at))

-- the first part that is not equal decides
pub by_first_part : (first : Ordering) (rest : List Ordering) → ByFirstPart (then_all first rest) (first ∷ rest)
by_first_part first rest = later_parts first (first ∷ []) rest (first_part first)

-- Several elements, split into parts of one width.
use Rattle.std.proofs.Common.{◌≡◌, ℕ, zero, suc, ◌+◌, ◌-◌, ◌*◌, ◌/◌, ◌%◌, ◌<◌, ◌≤◌, List, [], ◌∷◌, ◌++◌, length, take, drop, get_or, refl, sym, ap, ◌∙◌, inl, inr, append_assoc, arith, length-drop}
use Rattle.std.specs.Prelude.{All}
use Rattle.std.proofs.lemmas.List.{take_all, take-append-le, take-append-drop, drop-append-le, drop-drop, drop_all}
use Rattle.std.proofs.lemmas.List.Elements.{All-nil, All-cons, All-head, All-tail}
use Rattle.std.proofs.lemmas.List.{append-nil, length-take-le}
use Rattle.std.proofs.lemmas.Grind.{flat_map-append}
use Rattle.std.proofs.lemmas.Bool.{cases_lt}
use Rattle.std.proofs.lemmas.Nat.{mul-le, div-add-mod'}
use Rattle.std.proofs.Math.Nat.{mul-mod_left, mul-div_cancel}
use Rattle.std.proofs.Math.Logic.{∥∥₁_map, ∥∥₁_map₂, ∥∥₁_elim}
use Rattle.std.proofs.Props.{props}
use Rattle.std.specs.declared.cmp.Ordering.{Ordering}
use Rattle.art_mapped.specs.Elements.{KeepsOrder}
use Rattle.art_mapped.specs.SequenceLaws.{length-joined}
use Rattle.art_mapped.specs.Sequences.{joined, AreJoined, part, IsArray}

-- the bytes are those of some element
abbrev pub IsPartOfSome : {E : Type 0} → (E → Type 0) → (E → List ℕ) → List ℕ → Type 0
IsPartOfSome {E} is_element text bytes = ∥ ((x : E) × is_element x × (bytes ≡ text x)) ∥₁

module _ {E : Type 0} {is_element : E → Type 0} {text : E → List ℕ} {order : E → E → Ordering} {width : ℕ} (laws : KeepsOrder is_element text order width) where
  -- the first part, and the parts after it
  first_part : (bytes : List ℕ) → part width 0 bytes ≡ take width bytes
  first_part bytes =
      let none : 0 * width ≡ 0 = omega arith in
      ap (λ n. take width (drop n bytes)) none

  later_part : (k : ℕ) (bytes : List ℕ) → part width (suc k) bytes ≡ part width k (drop width bytes)
  later_part k bytes =
      let more : suc k * width ≡ width + k * width = omega arith in
      rw (more, drop-drop (k * width) width bytes) refl

  take_first : (x : E) (rest : List ℕ) → is_element x → take width (text x ++ rest) ≡ text x
  take_first x rest x_in = let long = laws.long x x_in in take-append-le width (text x) rest (omega arith) ∙ take_all width (text x) (omega arith)

  drop_first : (x : E) (rest : List ℕ) → is_element x → drop width (text x ++ rest) ≡ rest
  drop_first x rest x_in =
      let long = laws.long x x_in in
      drop-append-le width (text x) rest (omega arith) ∙ ap (λ front. front ++ rest) (drop_all width (text x) (omega arith))

  shorter : (n : ℕ) (bytes : List ℕ) → length bytes ≡ suc n * width → length (drop width bytes) ≡ n * width
  shorter n bytes size = omega (arith, length-drop width bytes)

  -- where the parts are those of the elements, the bytes are the elements' joined
  pub joined_from_parts : (xs : List E) (bytes : List ℕ) → length bytes ≡ length xs * width → ((k : ℕ) (d : E) → k < length xs → part width k bytes ≡ text (get_or xs k d)) → bytes ≡ joined text xs
  joined_from_parts [] [] size parts = refl
  joined_from_parts [] (b ∷ bytes) size parts = absurd (omega arith)
  joined_from_parts (x ∷ xs) bytes size parts =
      let first : take width bytes ≡ text x = sym (first_part bytes) ∙ parts 0 x (omega arith) in
      let rest = joined_from_parts xs (drop width bytes) (shorter (length xs) bytes size) (λ k d below. sym (later_part k bytes) ∙ parts (suc k) d (omega arith)) in
      sym (take-append-drop width bytes) ∙ rw (first, rest) refl

  -- where each part is some element's, the bytes are some elements' joined
  pub are_joined_from_parts : (n : ℕ) (bytes : List ℕ) → length bytes ≡ n * width → ((k : ℕ) → k < n → IsPartOfSome is_element text (part width k bytes)) → AreJoined is_element text bytes
  are_joined_from_parts zero [] size parts = ∣ ([], All-nil is_element, refl) ∣₁
  are_joined_from_parts zero (b ∷ bytes) size parts = absurd (omega arith)
  are_joined_from_parts (suc n) bytes size parts =
      let rest = are_joined_from_parts n (drop width bytes) (shorter n bytes size) (λ k below. rw (← later_part k bytes) (parts (suc k) (omega arith))) in
      ∥∥₁_map₂ (parts 0 (omega arith)) rest (λ first others. (
        first.0 ∷ others.0,
        All-cons is_element first.0 others.0 first.1 others.1,
        sym (take-append-drop width bytes) ∙ rw (sym (first_part bytes) ∙ first.2, others.2) refl,
      ))

  -- each part of joined elements is some element's
  element_of_part : (xs : List E) (k : ℕ) → All is_element xs → k < length xs → (x : E) × is_element x × (part width k (joined text xs) ≡ text x)
  element_of_part [] k all below = absurd (omega arith)
  element_of_part (x ∷ xs) zero all below =
      let first = All-head is_element x xs all in
      (x, first, first_part (joined text (x ∷ xs)) ∙ take_first x (joined text xs) first)
  element_of_part (x ∷ xs) (suc k) all below =
      let later = element_of_part xs k (All-tail is_element x xs all) (omega arith) in
      (later.0, later.1, later_part k (joined text (x ∷ xs)) ∙ ap (part width k) (drop_first x (joined text xs) (All-head is_element x xs all)) ∙ later.2)

  -- a part that ends within n parts is one of them
  below_from_size : (k n : ℕ) → 0 < width → (k + 1) * width ≤ n * width → k < n
  below_from_size k n some within = elim (cases_lt k n) [ inl below ↦ below | inr above ↦ absurd (omega (arith, mul-le n width k width above (omega arith))) ]

  pub part_within : (k size : ℕ) → k < size / width → (k + 1) * width ≤ size
  part_within k size below =
      omega (arith, mul-le (k + 1) width (size / width) width (omega arith) (omega arith), div-add-mod' size width)

  -- a part taken from a slice, and its length
  pub part_taken : (k first second : ℕ) (bytes : List ℕ) → first ≡ width → second ≡ width → take second (take (length bytes - k * first) (drop (k * first) bytes)) ≡ part width k bytes
  part_taken k first second bytes first_is second_is =
      let start = k * width in
      rw (first_is, second_is) (ap (take width) (take_all (length bytes - start) (drop start bytes) (omega (arith, length-drop start bytes))))

  pub length-part : (k : ℕ) (bytes : List ℕ) → k < length bytes / width → length (part width k bytes) ≡ width
  length-part k bytes below =
      let start = k * width in
      length-take-le width (drop start bytes) (omega (arith, length-drop start bytes, part_within k (length bytes) below))

  pub is_part_of_some : (bytes : List ℕ) (k : ℕ) → AreJoined is_element text bytes → k < length bytes / width → IsPartOfSome is_element text (part width k bytes)
  is_part_of_some bytes k are below =
      let within = part_within k (length bytes) below in
      ∥∥₁_map are (λ of.
      let size : length bytes ≡ length of.0 * width = ap length of.2 ∙ length-joined laws of.0 of.1 in
      let found = element_of_part of.0 k of.1 (below_from_size k (length of.0) laws.some (rw size at within)) in
      (found.0, found.1, ap (part width k) of.2 ∙ found.2))

  -- the length of joined elements is a multiple of the width
  pub no_rest : (bytes : List ℕ) → AreJoined is_element text bytes → length bytes % width ≡ 0
  no_rest bytes are =
      ∥∥₁_elim are (hlevel props) (λ of. rw (ap length of.2 ∙ length-joined laws of.0 of.1) (mul-mod_left (length of.0) width))

  -- the length of joined elements is that of their parts
  pub size_of_parts : (bytes : List ℕ) → length bytes % width ≡ 0 → length bytes ≡ length bytes / width * width
  size_of_parts bytes none = omega (arith, div-add-mod' (length bytes) width)

  -- one more element is read
  pub one_more_read : (xs : List E) (x : E) (bytes : List ℕ) (k : ℕ) → joined text xs ++ drop (k * width) bytes ≡ bytes → part width k bytes ≡ text x
      → joined text (xs ++ x ∷ []) ++ drop ((k + 1) * width) bytes ≡ bytes
  one_more_read xs x bytes k before here =
      let on : (k + 1) * width ≡ k * width + width = omega arith in
      let single : joined text (x ∷ []) ≡ text x = append-nil (text x) in
      rw (flat_map-append text xs (x ∷ []), single, append_assoc, on, ← drop-drop width (k * width) bytes, ← here, take-append-drop width (drop (k * width) bytes)) before

  -- all elements are read
  pub all_read : (xs : List E) (bytes : List ℕ) (n : ℕ) → length bytes ≤ n * width → joined text xs ++ drop (n * width) bytes ≡ bytes → bytes ≡ joined text xs
  all_read xs bytes n size read = sym (rw (drop_all (n * width) bytes size, append-nil) at read)

  -- there are as many elements as parts
  pub size_of_array : (n : ℕ) (bytes : List ℕ) → ∥ ((xs : List E) × IsArray n is_element xs × (bytes ≡ joined text xs)) ∥₁ → length bytes / width ≡ n
  size_of_array n bytes are =
      ∥∥₁_elim are (hlevel props) (λ of. rw (ap length of.2 ∙ length-joined laws of.0 of.1.1, mul-div_cancel (length of.0) laws.some) of.1.0)

  pub joined_from_array : (n : ℕ) (bytes : List ℕ) → ∥ ((xs : List E) × IsArray n is_element xs × (bytes ≡ joined text xs)) ∥₁ → AreJoined is_element text bytes
  joined_from_array n bytes are = ∥∥₁_map are (λ of. (of.0, of.1.1, of.2))

  pub array_from_joined : (n : ℕ) (bytes : List ℕ) → length bytes / width ≡ n → AreJoined is_element text bytes → ∥ ((xs : List E) × IsArray n is_element xs × (bytes ≡ joined text xs)) ∥₁
  array_from_joined n bytes size are =
      ∥∥₁_map are (λ of. (of.0, (rw (ap length of.2 ∙ length-joined laws of.0 of.1, mul-div_cancel (length of.0) laws.some) at size, of.1), of.2))

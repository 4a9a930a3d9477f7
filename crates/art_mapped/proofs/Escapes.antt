-- Escaped texts, read byte by byte.
use Rattle.std.proofs.Common.{◌≡◌, ◌+◌, ◌<◌, ◌≤◌, ℕ, zero, suc, List, [], ◌∷◌, ◌++◌, Bool, true, false, length, drop, get_or, nat_eq, refl, sym, ap, ◌∙◌, arith, append_assoc, length-append, length-drop, add-one, subst, inl, inr}
use Rattle.std.specs.Vec.{vec_items}
use Rattle.std.specs.Prelude.{◌&&◌, Vec, ⊤, ◌≢◌, ◌↔◌, IsTrue}
use Rattle.std.proofs.lemmas.Bool.{eqb-true, eq-eqb}
use Rattle.std.proofs.lemmas.Bool.Decides.{eqb_tells}
use Rattle.std.proofs.lemmas.List.{drop_all}
use Rattle.std.proofs.lemmas.Grind.{flat_map-append}
use Rattle.std.proofs.Math.Logic.{∥∥₁_elim, ∥∥₁_map}
use Rattle.std.proofs.Math.Seq.{drop-cons}
use Rattle.std.proofs.Props.{props}
use Rattle.art_mapped.specs.Escaped.{is_escaped, vec_escaped_text, escaped, escaped_text, IsEscaped}
use Rattle.art_mapped.specs.Mapping.{StandsForSome, HasTextOf}
use Rattle.art_mapped.specs.VecLaws.{vec_with}
use Rattle.art_mapped.specs.EscapedLaws.{escaped_apart, escaped_text-append}

-- what is still to be read, with the zero before it whose meaning the next byte decides
abbrev pub pending : Bool → List ℕ → List ℕ
pending true rest = 0 ∷ rest
pending false rest = rest

-- what follows escaped bytes is an escaped text exactly where all is
escaped_later : (front rest : List ℕ) → IsEscaped (escaped front ++ rest) ↔ IsEscaped rest
escaped_later front rest = (
  λ is. ∥∥₁_map is (λ of. let apart = escaped_apart front of.0 rest (sym of.1) in (apart.0, apart.2)),
  λ is. ∥∥₁_map is (λ of. (front ++ of.0, ap (λ text. escaped front ++ text) of.1 ∙ sym (escaped_text-append front of.0))),
)

-- a byte other than zero is itself, and of a zero the next byte decides
one_later : (b : ℕ) (rest : List ℕ) → IsEscaped (b ∷ rest) ↔ IsEscaped (pending (nat_eq b 0) rest)
one_later zero rest = (λ is. is, λ is. is)
one_later (suc b) rest =
    let is_not : nat_eq (suc b) 0 ≡ false = elim (eqb_tells (suc b) 0) [ inl is ↦ absurd (let clash = is.1 in omega arith) | inr is_not ↦ is_not.0 ] in
    rw is_not (escaped_later (suc b ∷ []) rest)

-- a zero with no escape is the first of two that end the text
pub ends_here : (b : ℕ) (rest : List ℕ) → b ≢ 255 → IsEscaped (0 ∷ b ∷ rest) → (b ≡ 0) × (rest ≡ [])
ends_here b rest none is = ∥∥₁_elim is (hlevel props) (λ of. at_end of.0 of.1)
  where
    at_end : (bytes : List ℕ) → 0 ∷ b ∷ rest ≡ escaped_text bytes → (b ≡ 0) × (rest ≡ [])
    at_end [] same = (cc, cc)
    at_end (zero ∷ bytes) same = absurd (none cc)
    at_end (suc x ∷ bytes) same = absurd (let clash : 0 ≡ suc x = cc in omega (arith, clash))

-- a zero before any byte but a second zero is escaped
escape_here : (b : ℕ) (rest : List ℕ) → b ≢ 0 → IsEscaped (0 ∷ b ∷ rest) → b ≡ 255
escape_here b rest some is = ∥∥₁_elim is (hlevel props) (λ of. escape_of of.0 of.1)
  where
    escape_of : (bytes : List ℕ) → 0 ∷ b ∷ rest ≡ escaped_text bytes → b ≡ 255
    escape_of [] same = absurd (some cc)
    escape_of (zero ∷ bytes) same = cc
    escape_of (suc x ∷ bytes) same = absurd (let clash : 0 ≡ suc x = cc in omega (arith, clash))

-- a text has an end
no_end : (z : Bool) → IsEscaped (pending z []) → ⊥
no_end z is = ∥∥₁_elim is (hlevel props) (λ of. none z of.0 of.1)
  where
    none : (z : Bool) (bytes : List ℕ) → pending z [] ≡ escaped_text bytes → ⊥
    none true [] same = cc
    none true (zero ∷ bytes) same = cc
    none true (suc x ∷ bytes) same = cc
    none false [] same = cc
    none false (zero ∷ bytes) same = cc
    none false (suc x ∷ bytes) same = cc

later_is : (text : List ℕ) (i : ℕ) → i < length text → drop i text ≡ get_or text i 0 ∷ drop (i + 1) text
later_is text i below = rw add-one (drop-cons text i 0 below)

module _ (text : List ℕ) (i : ℕ) (z : Bool) where
  -- one byte further, where no zero is pending
  pub read_one : i < length text → z ≡ false → (next : Bool) → next ≡ nat_eq (get_or text i 0) 0
      → (IsEscaped text ↔ IsEscaped (pending z (drop i text))) → IsEscaped text ↔ IsEscaped (pending next (drop (i + 1) text))
  read_one below is next next_is so_far =
      let step = one_later (get_or text i 0) (drop (i + 1) text) in
      let here = rw (is, later_is text i below) at so_far in
      rw next_is (λ whole. step.0 (here.0 whole), λ rest. here.1 (step.1 rest))

  -- one byte further, where it is the escape of a zero
  pub read_escape : i < length text → z ≡ true → get_or text i 0 ≡ 255 → (next : Bool) → next ≡ false
      → (IsEscaped text ↔ IsEscaped (pending z (drop i text))) → IsEscaped text ↔ IsEscaped (pending next (drop (i + 1) text))
  read_escape below is byte next next_is so_far =
      let step = escaped_later (0 ∷ []) (drop (i + 1) text) in
      let here = rw (is, later_is text i below, byte) at so_far in
      rw next_is (λ whole. step.0 (here.0 whole), λ rest. here.1 (step.1 rest))

  -- the second zero ends the text exactly where no byte follows
  pub ends_exactly : i < length text → z ≡ true → get_or text i 0 ≡ 0
      → (IsEscaped text ↔ IsEscaped (pending z (drop i text))) → IsTrue (nat_eq (i + 1) (length text)) ↔ IsEscaped text
  ends_exactly below is byte so_far =
      let here = rw (is, later_is text i below, byte) at so_far in
      let size = length-drop (i + 1) text in (
        λ last.
            let all : i + 1 ≡ length text = eqb-true (i + 1) (length text) last in
            let none : drop (i + 1) text ≡ [] = drop_all (i + 1) text (omega arith) in
            here.1 ∣ ([], ap (λ rest. 0 ∷ 0 ∷ rest) none) ∣₁,
        λ whole.
            let end = (ends_here 0 (drop (i + 1) text) (λ clash. omega (arith, clash)) (here.0 whole)).1 in
            let none : length (drop (i + 1) text) ≡ 0 = ap length end in
            eq-eqb (i + 1) (length text) (omega arith),
      )

  -- after a zero no other byte comes
  pub no_other : i < length text → z ≡ true → get_or text i 0 ≢ 255 → get_or text i 0 ≢ 0
      → (IsEscaped text ↔ IsEscaped (pending z (drop i text))) → IsEscaped text → ⊥
  no_other below is other some so_far whole =
      let here = rw (is, later_is text i below) at so_far in
      some (ends_here (get_or text i 0) (drop (i + 1) text) other (here.0 whole)).0

  -- a text that was read to its end has none
  pub no_more : length text ≤ i → (IsEscaped text → IsEscaped (pending z (drop i text))) → IsEscaped text → ⊥
  no_more all so_far whole = no_end z (rw (drop_all i text all) at (so_far whole))

  -- what is still to be read after these bytes
  pub still_escaped : (bytes : List ℕ) → text ≡ escaped bytes ++ pending z (drop i text) → IsEscaped text → IsEscaped (pending z (drop i text))
  still_escaped bytes so_far whole = (escaped_later bytes (pending z (drop i text))).0 (subst IsEscaped so_far whole)

  -- all bytes were read
  pub all_read : (bytes : List ℕ) → i < length text → z ≡ true → get_or text i 0 ≡ 0 → IsEscaped text
      → text ≡ escaped bytes ++ pending z (drop i text) → text ≡ escaped_text bytes
  all_read bytes below is byte whole so_far =
      let here = rw (is, later_is text i below, byte) at (still_escaped bytes so_far whole) in
      let end = (ends_here 0 (drop (i + 1) text) (λ clash. omega (arith, clash)) here).1 in
      so_far ∙ rw (is, later_is text i below, byte, end) refl

  -- a zero waits for the next byte
  pub wait_one : (bytes : List ℕ) → i < length text → z ≡ false → get_or text i 0 ≡ 0
      → text ≡ escaped bytes ++ pending z (drop i text) → text ≡ escaped bytes ++ 0 ∷ drop (i + 1) text
  wait_one bytes below is byte so_far = so_far ∙ rw (is, later_is text i below, byte) refl

  -- one byte more, which is itself
  pub take_one : (bytes : List ℕ) → i < length text → z ≡ false → get_or text i 0 ≢ 0
      → text ≡ escaped bytes ++ pending z (drop i text) → text ≡ escaped (bytes ++ get_or text i 0 ∷ []) ++ pending z (drop (i + 1) text)
  take_one bytes below is some so_far = so_far ∙ rw (is, later_is text i below) (plain (get_or text i 0) (drop (i + 1) text) some)
    where
      plain : (b : ℕ) (rest : List ℕ) → b ≢ 0 → escaped bytes ++ b ∷ rest ≡ escaped (bytes ++ b ∷ []) ++ rest
      plain zero rest not_zero = absurd (not_zero refl)
      plain (suc b) rest not_zero = rw flat_map-append (sym (append_assoc (escaped bytes) (suc b ∷ []) rest))

  -- one byte more, which is an escaped zero
  pub take_zero : (bytes : List ℕ) → i < length text → z ≡ true → get_or text i 0 ≢ 0 → IsEscaped text
      → text ≡ escaped bytes ++ pending z (drop i text) → text ≡ escaped (bytes ++ 0 ∷ []) ++ drop (i + 1) text
  take_zero bytes below is some whole so_far =
      let here = rw (is, later_is text i below) at (still_escaped bytes so_far whole) in
      let byte = escape_here (get_or text i 0) (drop (i + 1) text) some here in
      so_far ∙ rw (is, later_is text i below, byte, flat_map-append) (sym (append_assoc (escaped bytes) (0 ∷ 255 ∷ []) (drop (i + 1) text)))

-- escaping makes no bytes fewer
escaped_longer : (bytes : List ℕ) → length bytes ≤ length (escaped bytes)
escaped_longer [] = omega arith
escaped_longer (zero ∷ bytes) = let rest = escaped_longer bytes in omega arith
escaped_longer (suc b ∷ bytes) = let rest = escaped_longer bytes in omega arith

-- where a vector has the escaped text of some bytes, a vector has those bytes
pub vec_of_escaped : {Z : Type 0} (text : Vec ℕ Z) (bytes : List ℕ) → vec_items text ≡ escaped_text bytes → (v : Vec ℕ Z) × (vec_items v ≡ bytes)
vec_of_escaped text bytes same =
    let size : length (vec_items text) ≡ length (escaped_text bytes) = ap length same in
    vec_with text bytes (omega (arith, escaped_longer bytes, length-append (escaped bytes) (0 ∷ 0 ∷ []), size))

-- a vector with an escaped text stands for some vector's bytes
pub stands_for_bytes : {Z : Type 0} (text : Vec ℕ Z) → IsEscaped (vec_items text) → StandsForSome {D = Vec ℕ Z} (λ _. ⊤) (HasTextOf vec_items vec_escaped_text) text
stands_for_bytes text is = ∥∥₁_map is (λ of. let v = vec_of_escaped text of.0 of.1 in (v.0, tt, of.1 ∙ ap escaped_text (sym v.1)))

-- every escaped text is read to its end
read_to_end : (bytes : List ℕ) → is_escaped (escaped_text bytes) ≡ true
read_to_end [] = refl
read_to_end (zero ∷ bytes) = read_to_end bytes
read_to_end (suc b ∷ bytes) = read_to_end bytes

both_true : (a b : Bool) → (a && b) ≡ true → (a ≡ true) × (b ≡ true)
both_true true b are = (refl, are)
both_true false b are = let clash : false ≡ true = are in cc

zero_read : (b : ℕ) (rest bytes : List ℕ) → b ≡ 255 → rest ≡ escaped_text bytes → 0 ∷ b ∷ rest ≡ escaped_text (0 ∷ bytes)
zero_read b rest bytes escape later = rw (escape, later) refl

-- a list that is read to its end is the escaped text of what is read
bytes_read : (text : List ℕ) → is_escaped text ≡ true → (bytes : List ℕ) × (text ≡ escaped_text bytes)
bytes_read [] is = let clash : false ≡ true = is in cc
bytes_read (zero ∷ []) is = let clash : false ≡ true = is in cc
bytes_read (zero ∷ zero ∷ []) is = ([], refl)
bytes_read (zero ∷ zero ∷ b ∷ rest) is = let clash : false ≡ true = is in cc
bytes_read (zero ∷ suc b ∷ rest) is =
    let both = both_true (nat_eq (suc b) 255) (is_escaped rest) is in
    let later = bytes_read rest both.1 in
    (0 ∷ later.0, zero_read (suc b) rest later.0 (eqb-true (suc b) 255 both.0) later.1)
bytes_read (suc b ∷ rest) is = let later = bytes_read rest is in (suc b ∷ later.0, rw later.1 refl)

-- bytes are those of a byte string exactly where they are read to their end
pub escaped_value : {Z : Type 0} (text : Vec ℕ Z) → StandsForSome {D = Vec ℕ Z} (λ _. ⊤) (HasTextOf vec_items vec_escaped_text) text ↔ IsTrue (is_escaped (vec_items text))
escaped_value text = (
  λ some. ∥∥₁_elim some (hlevel props) (λ of. ap is_escaped of.2 ∙ read_to_end (vec_items of.0)),
  λ is. stands_for_bytes text ∣ bytes_read (vec_items text) is ∣₁,
)

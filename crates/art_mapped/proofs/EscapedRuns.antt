-- Escaped texts of UTF-8, read from zero to zero.
use Rattle.std.proofs.Common.{◌≡◌, ◌-◌, ◌<◌, ◌≤◌, ℕ, zero, suc, List, [], ◌∷◌, ◌++◌, length, take, drop, get_or, refl, sym, ap, ◌∙◌, arith, subst, length-append, length-drop, nat_eq}
use Rattle.std.specs.Prelude.{Vec, String, string_bytes, ⊤, ◌≢◌, ◌↔◌, IsTrue}
use Rattle.std.proofs.lemmas.Bool.{eqb-true, eq-eqb}
use Rattle.std.specs.Vec.{vec_items}
use Rattle.std.specs.Str.{IsUtf8, IsCharBoundary}
use Rattle.std.proofs.lemmas.List.{append-nil, nil_from_length, take-append-drop}
use Rattle.std.proofs.lemmas.Str.{IsUtf8-append, IsUtf8-drop, IsUtf8-from_ascii, IsUtf8-had, IsUtf8-nil, IsUtf8-string_bytes, IsUtf8-take, IsCharBoundary-after_ascii, IsCharBoundary-before_ascii, IsCharBoundary-end}
use Rattle.std.proofs.Math.Logic.{∥∥₁_elim, ∥∥₁_map}
use Rattle.std.proofs.Math.Seq.{drop-append_seam, take-append_seam, drop-cons}
use Rattle.std.proofs.Props.{props}
use Rattle.art_mapped.specs.Escaped.{escaped, escaped_text, IsEscaped}
use Rattle.art_mapped.specs.EscapedLaws.{escaped_apart, escaped_text-append}
use Rattle.art_mapped.specs.EscapedStrings.{IsEscapedUtf8, string_escaped_text}
use Rattle.art_mapped.specs.Mapping.{StandsForSome, HasTextOf}
use Rattle.art_mapped.proofs.Escapes.{ends_here, vec_of_escaped}

-- bytes of which none is zero are not escaped
escaped_run : (run : List ℕ) → ((k : ℕ) → k < length run → get_or run k 0 ≢ 0) → escaped run ≡ run
escaped_run [] some = refl
escaped_run (zero ∷ run) some = absurd (some 0 (omega arith) refl)
escaped_run (suc b ∷ run) some = ap (λ rest. suc b ∷ rest) (escaped_run run (λ k below. some (suc k) (omega arith)))

-- an escaped text has its end
at_least_two : (text : List ℕ) → IsEscaped text → 2 ≤ length text
at_least_two text is = ∥∥₁_elim is (hlevel props) (λ of. let size : length text ≡ length (escaped_text of.0) = ap length of.1 in omega (arith, length-append (escaped of.0) (0 ∷ 0 ∷ []), size))

pub is_escaped_utf8 : (text : List ℕ) → IsEscapedUtf8 text → IsEscaped text
is_escaped_utf8 text is = ∥∥₁_map is (λ of. (of.0, of.2))

get_or-at_seam : (run : List ℕ) (b : ℕ) (later : List ℕ) → get_or (run ++ b ∷ later) (length run) 0 ≡ b
get_or-at_seam [] b later = refl
get_or-at_seam (x ∷ run) b later = get_or-at_seam run b later

-- a text that is UTF-8 is so on both sides of a zero, and of its end
apart_at_zero : (run last : List ℕ) → ((b : ℕ) (later : List ℕ) → last ≡ b ∷ later → b ≡ 0) → IsUtf8 (run ++ last) → IsUtf8 run × IsUtf8 last
apart_at_zero run last first utf8 =
    let place = boundary last first in
    (subst IsUtf8 (take-append_seam run last) (IsUtf8-take (run ++ last) (length run) utf8 place), subst IsUtf8 (drop-append_seam run last) (IsUtf8-drop (run ++ last) (length run) utf8 place))
  where
    boundary : (last : List ℕ) → ((b : ℕ) (later : List ℕ) → last ≡ b ∷ later → b ≡ 0) → IsCharBoundary (run ++ last) (length run)
    boundary [] first = rw append-nil (IsCharBoundary-end run)
    boundary (b ∷ later) first =
        let none : b ≡ 0 = first b later refl in
        let here : get_or (run ++ b ∷ later) (length run) 0 ≡ b = get_or-at_seam run b later in
        IsCharBoundary-before_ascii (run ++ b ∷ later) (length run) (omega (arith, length-append run (b ∷ later))) (omega (arith, here, none))

-- the first byte of an escaped text is zero where there is no first byte of what it is of, or where that is zero
first_of : (bytes : List ℕ) (b : ℕ) (later rest : List ℕ) → 0 ∷ rest ≡ escaped_text bytes → bytes ≡ b ∷ later → b ≡ 0
first_of bytes zero later rest same is = refl
first_of bytes (suc b) later rest same is = absurd (let whole : 0 ∷ rest ≡ escaped_text (suc b ∷ later) = same ∙ ap escaped_text is in let clash : 0 ≡ suc b = cc in omega (arith, clash))

-- bytes before a zero, and what follows
run_apart : (run rest : List ℕ) → ((k : ℕ) → k < length run → get_or run k 0 ≢ 0) → IsEscapedUtf8 (run ++ 0 ∷ rest) ↔ (IsUtf8 run × IsEscapedUtf8 (0 ∷ rest))
run_apart run rest some = (
  λ is.
      let sides : ∥ (IsUtf8 run × IsEscapedUtf8 (0 ∷ rest)) ∥₁ = ∥∥₁_map is (λ of.
      let apart = escaped_apart run of.0 (0 ∷ rest) (sym of.2 ∙ ap (λ front. front ++ 0 ∷ rest) (sym (escaped_run run some))) in
      let utf8 = apart_at_zero run apart.0 (λ b later. first_of apart.0 b later rest apart.2) (subst IsUtf8 apart.1 of.1) in
      (utf8.0, ∣ (apart.0, utf8.1, apart.2) ∣₁)) in
      (IsUtf8-had run (∥∥₁_map sides (λ of. of.0)), ∥∥₁_elim sides (hlevel props) (λ of. of.1)),
  λ both. ∥∥₁_map both.1 (λ of. (
    run ++ of.0,
    IsUtf8-append run of.0 both.0 of.1,
    ap (λ text. run ++ text) of.2 ∙ ap (λ front. front ++ escaped_text of.0) (sym (escaped_run run some)) ∙ sym (escaped_text-append run of.0),
  )),
)

-- a zero with its escape, and what follows
zero_apart : (rest : List ℕ) → IsEscapedUtf8 (0 ∷ 255 ∷ rest) ↔ IsEscapedUtf8 rest
zero_apart rest = (
  λ is. ∥∥₁_map is (λ of.
      let apart = escaped_apart (0 ∷ []) of.0 rest (sym of.2) in
      let utf8 : IsUtf8 (0 ∷ apart.0) = subst IsUtf8 apart.1 of.1 in
      (apart.0, IsUtf8-drop (0 ∷ apart.0) 1 utf8 (IsCharBoundary-after_ascii (0 ∷ apart.0) 0 utf8 (omega arith) (omega arith)), apart.2)),
  λ is. ∥∥₁_map is (λ of. (
    0 ∷ of.0,
    IsUtf8-append (0 ∷ []) of.0 (IsUtf8-from_ascii (0 ∷ []) ascii) of.1,
    ap (λ text. 0 ∷ 255 ∷ text) of.2,
  )),
)
  where
    ascii : (i : ℕ) → get_or (0 ∷ []) i 0 < 128
    ascii zero = omega arith
    ascii (suc i) = omega arith

-- what is known of the bytes up to the first zero
pub record IsRun (text : List ℕ) (run : ℕ) : Type 0 where
  pub within : run ≤ length text
  pub before : (k : ℕ) → k < run → get_or text k 0 ≢ 0
  pub found : run < length text → get_or text run 0 ≡ 0

take_some : (run : ℕ) (text : List ℕ) → ((k : ℕ) → k < run → get_or text k 0 ≢ 0) → (k : ℕ) → k < length (take run text) → get_or (take run text) k 0 ≢ 0
take_some zero text some k below = absurd (omega arith)
take_some (suc run) [] some k below = absurd (omega arith)
take_some (suc run) (b ∷ text) some zero below = some 0 (omega arith)
take_some (suc run) (b ∷ text) some (suc k) below = take_some run text (λ i small. some (suc i) (omega arith)) k (omega arith)

-- the bytes up to the first zero, and what follows
pub at_run : (text : List ℕ) (run : ℕ) → IsRun text run → IsEscapedUtf8 text ↔ (IsUtf8 (take run text) × IsEscapedUtf8 (drop run text))
at_run text run is = by_rest (drop run text) (take-append-drop run text) (λ some. let below : run < length text = omega (arith, length-drop run text) in drop-cons text run 0 below ∙ ap (λ b. b ∷ drop (suc run) text) (is.found below))
  where
    by_rest : (rest : List ℕ) → take run text ++ rest ≡ text → (0 < length rest → rest ≡ 0 ∷ drop (suc run) text) → IsEscapedUtf8 text ↔ (IsUtf8 (take run text) × IsEscapedUtf8 rest)
    by_rest [] whole first =
        let all : take run text ≡ text = sym (append-nil (take run text)) ∙ whole in (
          λ is_escaped. absurd (none all is_escaped),
          λ both. absurd (let few = at_least_two [] (is_escaped_utf8 [] both.1) in omega arith),
        )
      where
        none : take run text ≡ text → IsEscapedUtf8 text → ⊥
        none all is_escaped = ∥∥₁_elim is_escaped (hlevel props) (λ of.
            let plain : escaped (take run text) ≡ text = escaped_run (take run text) (take_some run text is.before) ∙ all in
            let apart = escaped_apart (take run text) of.0 [] (sym of.2 ∙ sym plain ∙ sym (append-nil (escaped (take run text)))) in
            let few = at_least_two [] ∣ (apart.0, apart.2) ∣₁ in omega arith)
    by_rest (b ∷ later) whole first =
        let here : b ∷ later ≡ 0 ∷ drop (suc run) text = first (omega arith) in
        let sides = run_apart (take run text) (drop (suc run) text) (take_some run text is.before) in
        let all : text ≡ take run text ++ 0 ∷ drop (suc run) text = sym whole ∙ ap (λ rest. take run text ++ rest) here in (
          λ is_escaped. let both = sides.0 (subst IsEscapedUtf8 all is_escaped) in (both.0, subst IsEscapedUtf8 (sym here) both.1),
          λ both. subst IsEscapedUtf8 (sym all) (sides.1 (both.0, subst IsEscapedUtf8 here both.1)),
        )

-- after the bytes up to the first zero there is that zero
after_run : (text : List ℕ) (run : ℕ) → IsRun text run → (end : List ℕ) → end ≡ drop run text → 2 ≤ length end → end ≡ 0 ∷ get_or end 1 0 ∷ drop 2 end
after_run text run is [] end_is long = absurd (omega arith)
after_run text run is (b ∷ []) end_is long = absurd (omega arith)
after_run text run is (b ∷ c ∷ rest) end_is long =
    let size : length (b ∷ c ∷ rest) ≡ length (drop run text) = ap length end_is in
    let below : run < length text = omega (arith, length-drop run text, size) in
    let whole : b ∷ c ∷ rest ≡ get_or text run 0 ∷ drop (suc run) text = end_is ∙ drop-cons text run 0 below in
    let found : get_or text run 0 ≡ 0 = is.found below in
    let first : b ≡ 0 = cc in
    rw first refl

module _ (text rest : List ℕ) (run : ℕ) (is : IsRun rest run) (so_far : IsEscapedUtf8 text ↔ IsEscapedUtf8 rest) where
  -- the bytes up to the first zero are no characters
  pub no_characters : (IsUtf8 (take run rest) → ⊥) → IsEscapedUtf8 text → ⊥
  no_characters none whole = none ((at_run rest run is).0 (so_far.0 whole)).0

  module _ (end : List ℕ) (end_is : end ≡ drop run rest) where
    to_end : IsEscapedUtf8 text → IsEscapedUtf8 end
    to_end whole = subst IsEscapedUtf8 (sym end_is) ((at_run rest run is).0 (so_far.0 whole)).1

    from_end : IsUtf8 (take run rest) → IsEscapedUtf8 end → IsEscapedUtf8 text
    from_end utf8 last = so_far.1 ((at_run rest run is).1 (utf8, subst IsEscapedUtf8 end_is last))

    -- less than two bytes are no end
    pub no_room_for_end : length end < 2 → IsEscapedUtf8 text → ⊥
    no_room_for_end few whole = let long = at_least_two end (is_escaped_utf8 end (to_end whole)) in omega arith

    -- the second zero ends the text exactly where no byte follows
    pub ends_exactly : IsUtf8 (take run rest) → 2 ≤ length end → get_or end 1 0 ≡ 0 → IsTrue (nat_eq (length end) 2) ↔ IsEscapedUtf8 text
    ends_exactly utf8 long byte =
        let shape : end ≡ 0 ∷ 0 ∷ drop 2 end = subst (λ (b : ℕ). end ≡ 0 ∷ b ∷ drop 2 end) byte (after_run rest run is end end_is long) in
        let size : length (drop 2 end) ≡ length end - 2 = length-drop 2 end in (
          λ last.
              let two : length end ≡ 2 = eqb-true (length end) 2 last in
              let none : drop 2 end ≡ [] = nil_from_length (drop 2 end) (omega arith) in
              from_end utf8 ∣ ([], IsUtf8-nil, shape ∙ ap (λ more. 0 ∷ 0 ∷ more) none) ∣₁,
          λ whole.
              let escaped_end : IsEscaped (0 ∷ 0 ∷ drop 2 end) = subst IsEscaped shape (is_escaped_utf8 end (to_end whole)) in
              let none = (ends_here 0 (drop 2 end) (λ clash. omega (arith, clash)) escaped_end).1 in
              let no_more : length (drop 2 end) ≡ 0 = ap length none in
              eq-eqb (length end) 2 (omega arith),
        )

    -- after a zero no other byte comes
    pub no_other : 2 ≤ length end → get_or end 1 0 ≢ 255 → get_or end 1 0 ≢ 0 → IsEscapedUtf8 text → ⊥
    no_other long other some whole =
        let last : IsEscaped (0 ∷ get_or end 1 0 ∷ drop 2 end) = subst IsEscaped (after_run rest run is end end_is long) (is_escaped_utf8 end (to_end whole)) in
        some (ends_here (get_or end 1 0) (drop 2 end) other last).0

    -- what follows an escaped zero
    pub read_run : IsUtf8 (take run rest) → 2 ≤ length end → get_or end 1 0 ≡ 255 → (later : List ℕ) → later ≡ drop 2 end → IsEscapedUtf8 text ↔ IsEscapedUtf8 later
    read_run utf8 long byte later later_is =
        let shape : end ≡ 0 ∷ 255 ∷ drop 2 end = subst (λ (b : ℕ). end ≡ 0 ∷ b ∷ drop 2 end) byte (after_run rest run is end end_is long) in
        let step = zero_apart (drop 2 end) in (
          λ whole. subst IsEscapedUtf8 (sym later_is) (step.0 (subst IsEscapedUtf8 shape (to_end whole))),
          λ last. from_end utf8 (subst IsEscapedUtf8 (sym shape) (step.1 (subst IsEscapedUtf8 later_is last))),
        )

    pub fewer : 2 ≤ length end → (later : List ℕ) → later ≡ drop 2 end → length later < length rest
    fewer long later later_is =
        let all : length end ≡ length (drop run rest) = ap length end_is in
        let some : length later ≡ length (drop 2 end) = ap length later_is in
        omega (arith, length-drop run rest, length-drop 2 end, all, some)

-- an empty list is no text
pub not_empty : (text rest : List ℕ) → (IsEscapedUtf8 text → IsEscapedUtf8 rest) → length rest ≡ 0 → IsEscapedUtf8 text → ⊥
not_empty text rest so_far none whole = let long = at_least_two rest (is_escaped_utf8 rest (so_far whole)) in omega arith

-- a vector with the escaped text of some UTF-8 stands for some string
pub stands_for_string : {Z : Type 0} (text : Vec ℕ Z) → IsEscapedUtf8 (vec_items text) → StandsForSome {D = String Z} (λ _. ⊤) (HasTextOf vec_items string_escaped_text) text
stands_for_string text is = ∥∥₁_map is (λ of.
    let v = vec_of_escaped text of.0 of.2 in
    let utf8 : IsUtf8 (vec_items v.0) = subst IsUtf8 (sym v.1) of.1 in
    (record { bytes = v.0; ok = ∣ utf8 ∣₁ }, tt, of.2 ∙ ap escaped_text (sym v.1)))

-- and where it stands for one it has such a text
pub is_escaped_string : {Z : Type 0} (text : Vec ℕ Z) → StandsForSome {D = String Z} (λ _. ⊤) (HasTextOf vec_items string_escaped_text) text → IsEscapedUtf8 (vec_items text)
is_escaped_string text some = ∥∥₁_map some (λ of. (string_bytes of.0, IsUtf8-string_bytes of.0, of.2))

-- The first line of bytes, by what is read through its end.
use Rattle.std.proofs.Common.{◌≡◌, ◌≢◌, ◌⊎◌, inl, inr, ℕ, ◌+◌, ◌-◌, ◌<◌, ◌==◌, Bool, true, false, List, [], ◌∷◌, ◌++◌, length, get_or, refl, sym, ◌∙◌, ap, arith}
use Rattle.std.specs.Prelude.{nat_lt, Option, None, Some, IfSome}
use Rattle.std.specs.Io.BufRead.{take_through, drop_through, strip_last, DropsThrough}
use Rattle.std.specs.Io.KnownBytes.{IsAtEnd}
use Rattle.std.specs.List.{slice_split}
use Rattle.std.proofs.Math.Seq.{take-append_seam}
use Rattle.std.proofs.lemmas.Bool.{cases_Bool}
use Rattle.std.proofs.lemmas.List.{length-append}
use Rattle.std.proofs.lemmas.List.Elements.{All-cons, All-nil}
use Rattle.std.proofs.lemmas.List.Splits.{length-slice_split}
use Rattle.program_lines.specs.Lines.{HasNo, lines_of, without_empty_last}
use Rattle.program_lines.specs.Sessions.{TakesLine}
use Rattle.program_lines.proofs.Cuts.{parts_cut, parts_alone}
use Rattle.program_lines.proofs.Parts.{last_kept}
use Rattle.program_lines.proofs.SaidLines.{get_or-after}

-- no byte is 10
abbrev IsAlone : List ℕ → Type 0
IsAlone xs = HasNo 10 xs × (take_through 10 xs ≡ xs) × (drop_through 10 xs ≡ [])

-- some byte is, and these come before the first one
abbrev IsParted : List ℕ → Type 0
IsParted xs = (before : List ℕ) × HasNo 10 before × (xs ≡ before ++ 10 ∷ drop_through 10 xs) × (take_through 10 xs ≡ before ++ 10 ∷ [])

split_through : (xs : List ℕ) → IsAlone xs ⊎ IsParted xs
split_through [] = inl (All-nil (λ b. b ≢ 10), refl, refl)
split_through (x ∷ xs) = by_test (x == 10) refl (split_through xs)
  where
    by_test : (t : Bool) → (x == 10) ≡ t → IsAlone xs ⊎ IsParted xs → IsAlone (x ∷ xs) ⊎ IsParted (x ∷ xs)
    by_test true is rest =
        let same : x ≡ 10 = grind (arith, is) in
        inr ([], All-nil (λ b. b ≢ 10), rw is (λ i. same i ∷ xs), rw is (λ i. same i ∷ []))
    by_test false is (inl (none, taken, dropped)) =
        let other : x ≢ 10 = λ same. absurd (grind (arith, is, same)) in
        inl (All-cons (λ b. b ≢ 10) x xs other none, rw is (λ i. x ∷ taken i), rw is dropped)
    by_test false is (inr (before, none, whole, taken)) =
        let other : x ≢ 10 = λ same. absurd (grind (arith, is, same)) in
        inr (x ∷ before, All-cons (λ b. b ≢ 10) x before other none, rw is (λ i. x ∷ whole i), rw is (λ i. x ∷ taken i))

strip_ended : (before : List ℕ) → strip_last 10 (before ++ 10 ∷ []) ≡ before
strip_ended before =
    let size : length (before ++ 10 ∷ []) - 1 ≡ length before = omega (arith, length-append before (10 ∷ [])) in
    let some : nat_lt 0 (length (before ++ 10 ∷ [])) ≡ true = grind (arith, length-append before (10 ∷ [])) in
    rw (some, size, get_or-after before [] 10 0) (take-append_seam before (10 ∷ []))

strip_whole : (xs : List ℕ) → HasNo 10 xs → strip_last 10 xs ≡ xs
strip_whole [] none = refl
strip_whole (x ∷ xs) none =
    let size : length (x ∷ xs) - 1 ≡ length xs = omega arith in
    let differ : get_or (x ∷ xs) (length xs) 0 ≢ 10 = none (length xs) 0 (omega arith) in
    let test : (get_or (x ∷ xs) (length xs) 0 == 10) ≡ false = elim (cases_Bool (get_or (x ∷ xs) (length xs) 0 == 10)) [ inl e ↦ absurd (differ (grind (arith, e))) | inr e ↦ e ] in
    let some : nat_lt 0 (length (x ∷ xs)) ≡ true = grind arith in
    rw (some, size, test) refl

-- the first line, and the others
pub lines_through : (x : ℕ) (xs : List ℕ) → lines_of (x ∷ xs) ≡ strip_last 10 (take_through 10 (x ∷ xs)) ∷ lines_of (drop_through 10 (x ∷ xs))
lines_through x xs = by_cut (split_through (x ∷ xs))
  where
    by_cut : IsAlone (x ∷ xs) ⊎ IsParted (x ∷ xs) → lines_of (x ∷ xs) ≡ strip_last 10 (take_through 10 (x ∷ xs)) ∷ lines_of (drop_through 10 (x ∷ xs))
    by_cut (inl (none, taken, dropped)) =
        let first : x ∷ xs ≡ strip_last 10 (take_through 10 (x ∷ xs)) = sym (strip_whole (x ∷ xs) none) ∙ ap (strip_last 10) (sym taken) in
        let rest : [] ≡ lines_of (drop_through 10 (x ∷ xs)) = ap lines_of (sym dropped) in
        ap without_empty_last (parts_alone 10 (x ∷ xs) none) ∙ (λ i. first i ∷ rest i)
    by_cut (inr (before, none, whole, taken)) =
        let after : List ℕ = drop_through 10 (x ∷ xs) in
        let first : before ≡ strip_last 10 (take_through 10 (x ∷ xs)) = sym (strip_ended before) ∙ ap (strip_last 10) (sym taken) in
        let some : 0 < length (slice_split (λ b. b == 10) after) = omega (arith, length-slice_split (λ b. b == 10) after) in
        ap without_empty_last (parts_cut 10 (x ∷ xs) before after (whole, none)) ∙ last_kept before (slice_split (λ b. b == 10) after) some ∙ ap (λ line. line ∷ lines_of after) first

-- a line is taken where some bytes are read through its end
pub takes_line : (old new : Option (List ℕ)) (start read line : List ℕ) (n : ℕ) → start ≡ [] → n ≢ 0 → length read ≡ length start + n → IfSome old (λ xs. read ≡ start ++ take_through 10 xs) → DropsThrough old new 10 → line ≡ strip_last 10 read → TakesLine old new line
takes_line None new start read line n none some size bytes dropped strip = tt
takes_line (Some []) new start read line n none some size bytes dropped strip =
    let empty : read ≡ [] = bytes ∙ ap (λ s. s ++ []) none in
    let gone : length start ≡ 0 = ap length none in
    let zero : length read ≡ 0 = ap length empty in
    absurd (some (omega (arith, size, gone, zero)))
takes_line (Some (x ∷ xs)) new start read line n none some size bytes dropped strip =
    let taken : read ≡ take_through 10 (x ∷ xs) = bytes ∙ ap (λ s. s ++ take_through 10 (x ∷ xs)) none in
    let first : strip_last 10 (take_through 10 (x ∷ xs)) ≡ line = sym (strip ∙ ap (strip_last 10) taken) in
    (drop_through 10 (x ∷ xs), dropped, lines_through x xs ∙ ap (λ l. l ∷ lines_of (drop_through 10 (x ∷ xs))) first)

-- no line is left where no byte is
pub no_line : (old : Option (List ℕ)) → IsAtEnd old → IfSome old (λ given. lines_of given ≡ [])
no_line None none = tt
no_line (Some xs) none = ap lines_of none

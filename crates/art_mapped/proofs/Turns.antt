-- Functions that calls leave unchanged, called at each step of a loop.
use Rattle.std.proofs.Common.{◌≡◌, ℕ, zero, suc, ◌+◌, ◌<◌, ◌≤◌, List, [], ◌∷◌, Option, Some, get_or, sym, subst, inl, inr, arith}
use Rattle.std.specs.List.{FoldsTo}
use Rattle.std.specs.Array.{IsFromFnResultFrom}
use denote.Param.Members.{Mut, Called}
use Rattle.std.proofs.lemmas.Bool.{cases_lt}
use Rattle.std.specs.Iterator.{CallableAtEachTurn}

folds_stay : {P A : Type 0} (R : P → A → P → Type 0) (p : P) → ((x : A) (q : P) → R p x q → q ≡ p) → (xs : List A) (q : P) → FoldsTo R p xs q → q ≡ p
folds_stay R p stays [] q folds = sym folds
folds_stay {P} R p stays (x ∷ xs) q folds =
    let From : P → Type 0 = λ j. FoldsTo R j xs q in
    folds_stay R p stays xs q (subst From (stays x folds.0 folds.1) folds.2)

-- what may be called at each item, and is unchanged afterwards, may be called at each step
pub callable_unchanged : {S A P : Type 0} (steps : S → Option A → S → Type 0) (R : P → A → P → Type 0) (Q : P → A → Type 0) (s : S) (p : P)
    → ((x : A) (q : P) → R p x q → q ≡ p) → ((t : S) (x : A) (u : S) → steps t (Some x) u → Q p x) → CallableAtEachTurn steps R Q s p
callable_unchanged {S} {A} {P} steps R Q s p stays callable =
    record {
      at = λ xs t q x u yields folds step.
          let At : P → Type 0 = λ j. Q j x in
          subst At (sym (folds_stay R p stays xs q folds)) (callable t x u step);
    }

-- an array made by such a function has at each index the result of a call there
pub called_at : {F B : Type 0} (g : Mut F (ℕ × Unit {0}) B) (f : F) → ((x : ℕ) (y : B) (q : F) → Called g f (x, tt) y q → q ≡ f)
    → (ys : List B) (n i : ℕ) → IsFromFnResultFrom g f ys i n → (k : ℕ) (d : B) → i ≤ k → k < i + n → (q : F) × Called g f (k, tt) (get_or ys k d) q
called_at g f stays ys zero i made k d from below = absurd (omega arith)
called_at {F} {B} g f stays ys (suc n) i (q, y, here, called, rest) k d from below =
    let Made : F → Type 0 = λ p. IsFromFnResultFrom g p ys (i + 1) n in
    elim (cases_lt i k) [
      | inl later ↦ called_at g f stays ys n (i + 1) (subst Made (stays i y q called) rest) k d (omega arith) (omega arith)
      | inr now ↦
          let same : i ≡ k = omega arith in
          let At : ℕ → Type 0 = λ j. Called g f (j, tt) (get_or ys j d) q in
          let Gave : B → Type 0 = λ z. Called g f (i, tt) z q in
          (q, subst At same (subst Gave (sym (here.1 d)) called))
    ]

-- Options and results that are present exactly where a value exists.
use Rattle.std.proofs.Common.{◌≡◌, Bool, Option, Some, None, Result, Ok, Err, refl, ap, ◌∙◌}
use Rattle.std.specs.Prelude.{IsTrue, IfSome, IfNone, IfOk, is_some, not, true, false}
use Rattle.std.proofs.Props.{props}
use Rattle.std.proofs.Math.Logic.{∥∥₁_elim}

-- the test of an option that is present exactly where some value fits
pub some_exactly : {E : Type 0} (P Q : E → Type 0) (answer : Option E) (b : Bool) → b ≡ is_some answer → IfSome answer (λ x. P x × Q x) → IfNone answer ((x : E) → P x → Q x → ⊥)
    → (IsTrue b → ∥ ((x : E) × P x × Q x) ∥₁) × (∥ ((x : E) × P x × Q x) ∥₁ → IsTrue b)
some_exactly P Q None b is fits none = rw is (λ yes. let clash : false ≡ true = yes in cc, λ some. absurd (∥∥₁_elim some (hlevel props) (λ of. none of.0 of.1 of.2)))
some_exactly P Q (Some x) b is fits none = rw is (λ _. ∣ (x, fits.0, fits.1) ∣₁, λ _. refl)

-- an option that is `None` meets what is stated of `None`
pub if_none : {E : Type 0} (P : Type 0) (answer : Option E) (b : Bool) → is_some answer ≡ not b → b ≡ true → IfNone answer P → P
if_none P None b is empty none = none
if_none P (Some x) b is empty none = let clash : true ≡ false = is ∙ ap not empty in cc

-- an option that is `Some` meets what is stated of its value
pub if_some : {E : Type 0} (P : E → Type 0) (answer : Option E) (b : Bool) → is_some answer ≡ not b → b ≡ false → IfSome answer P → (x : E) × P x
if_some P None b is full some = let clash : false ≡ true = is ∙ ap not full in cc
if_some P (Some x) b is full some = (x, some)

-- what follows from two facts of the value of an `Ok`
pub if_ok_both : {T F : Type 0} (P Q R : T → Type 0) (answer : Result T F) → IfOk answer P → IfOk answer Q → ((x : T) → P x → Q x → R x) → IfOk answer R
if_ok_both P Q R (Ok x) p q both = both x p q
if_ok_both P Q R (Err e) p q both = tt

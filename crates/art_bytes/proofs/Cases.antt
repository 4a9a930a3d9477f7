-- Options and results, case by case, for proofs in crates above.
use Rattle.std.proofs.Common.{◌≡◌, Option, Some, None, IfSome, IfNone, Result, Ok, Err, OnErr, refl, subst}

pub by_option : {X : Type 0} (o : Option X) (Goal : Type 0) → (o ≡ None → Goal) → ((x : X) → o ≡ Some x → Goal) → Goal
by_option None Goal none some = none refl
by_option (Some x) Goal none some = some x refl

-- what follows from the value of an option holds of the value that it has
pub if_some_at : {X : Type 0} (o : Option X) (Q : X → Type 0) (x : X) → o ≡ Some x → IfSome o Q → Q x
if_some_at None Q x is holds = absurd (cc)
if_some_at (Some y) Q x is holds = let same : y ≡ x = cc in subst Q same holds

-- where there is no value nothing follows from one
pub if_some_none : {X : Type 0} (o : Option X) (Q : X → Type 0) → o ≡ None → IfSome o Q
if_some_none None Q none = tt
if_some_none (Some x) Q none = absurd (cc)

-- what always holds, holds where there is no value, and on an error
pub if_none_always : {X : Type 0} (o : Option X) (Q : Type 0) → Q → IfNone o Q
if_none_always None Q holds = holds
if_none_always (Some x) Q holds = tt

pub on_err_always : {T E : Type 0} (r : Result T E) (Q : Type 0) → Q → OnErr r Q
on_err_always (Ok x) Q holds = tt
on_err_always (Err e) Q holds = holds

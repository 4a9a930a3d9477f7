-- What follows from a result of a call, and of what was found.
use Rattle.std.proofs.Common.{◌≡◌, Option, Some, None, Result, Ok, Err, OnOk, OnErr, refl}
use Rattle.std.specs.Option.{MatchOption, option_map}

module _ {A E : Type 0} where
  pub on-ok : (r : Result A E) (P Q : Type 0) → (P → Q) → OnOk r P → OnOk r Q
  on-ok (Ok x) P Q f p = f p
  on-ok (Err e) P Q f p = tt

  pub on-err : (r : Result A E) (P Q : Type 0) → (P → Q) → OnErr r P → OnErr r Q
  on-err (Ok x) P Q f p = tt
  on-err (Err e) P Q f p = f p

-- nothing is made of nothing alone
pub none_from : {X Y : Type 0} (f : X → Y) (o : Option X) → option_map f o ≡ None → o ≡ None
none_from f None is = refl
none_from f (Some x) is = absurd (cc)

pub match-map : {X : Type 0} (o : Option X) (P P' : Type 0) (Q Q' : X → Type 0) → (P → P') → ((x : X) → Q x → Q' x) → MatchOption o P Q → MatchOption o P' Q'
match-map None P P' Q Q' f g is = f is
match-map (Some x) P P' Q Q' f g is = g x is

-- The bytes of all parts, cut before the last part.
use Rattle.std.proofs.Common.{ℕ, ◌≤◌, List, length, ap, arith, length-append}
use Rattle.std.proofs.Math.Logic.{∥∥₁_elim}
use Rattle.std.proofs.Props.{props}
use Rattle.art_mapped.specs.Mapping.{StandsForSome}
use Rattle.art_mapped.specs.Tuples.{Both, StandsForBoth, TextLaws}
use Rattle.art_mapped.specs.TupleLaws.{last_long}

module _ {A B : Type 0} {front_in : A → Type 0} {front_text : A → List ℕ} {front_stands : List ℕ → A → Type 0} {front_same : A → A → Type 0} {front_width : ℕ}
    {last_in : B → Type 0} {last_text : B → List ℕ} {last_stands : List ℕ → B → Type 0} {last_same : B → B → Type 0} {last_width : ℕ}
    (front : TextLaws front_in front_text front_stands front_same front_width) (last : TextLaws last_in last_text last_stands last_same last_width) where
  -- the last part fits
  pub long_enough : (text : List ℕ) → StandsForSome (Both front_in last_in) (StandsForBoth front_stands last_stands) text → last_width ≤ length text
  long_enough text some =
      ∥∥₁_elim some (hlevel props) (λ of.
      let size = ap length of.2.2 in
      let long = last_long front last text of.0 of.1.1 of.2 in
      omega (arith, length-append of.2.0 of.2.1, size, long))

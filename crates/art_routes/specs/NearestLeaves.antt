-- The leaves of a tree that are nearest to a side of a key, and texts between two sides. No public clause cites this.
use Rattle.std.specs.Prelude.{◌≡◌, ℕ, Bool, true, false, not, ◌&&◌, List, [], ◌∷◌, ◌++◌, Option, Some, None}
use Rattle.art_arena.specs.declared.ends.End.{End}
use Rattle.art_arena.specs.declared.ends.End.TheVariants.{First, Last}
use Rattle.art_steps.specs.Sides.{is_before, AreOn}
use Rattle.art_steps.specs.declared.place.Side.{Side}

-- whether a text comes after the one side of a key and before the other
abbrev pub is_between : Side → List ℕ → Side → List ℕ → List ℕ → Bool
is_between start_side start end_side end text = is_before end_side end text && not (is_before start_side start text)

module _ {H : Type 0} (side : Side) (key : List ℕ) where
  -- the first of these leaves after this side of the key; none where all are before it
  abbrev pub IsFirstAfter : List (H × List ℕ) → Option H → Type 0
  IsFirstAfter leaves None = AreOn side key true leaves
  IsFirstAfter leaves (Some pointer) =
      (text : List ℕ) × (left : List (H × List ℕ)) × (right : List (H × List ℕ)) × (leaves ≡ left ++ (pointer, text) ∷ right)
      × AreOn side key true left × AreOn side key false ((pointer, text) ∷ right)

  -- the last of these leaves before this side of the key; none where all are after it
  abbrev pub IsLastBefore : List (H × List ℕ) → Option H → Type 0
  IsLastBefore leaves None = AreOn side key false leaves
  IsLastBefore leaves (Some pointer) =
      (text : List ℕ) × (left : List (H × List ℕ)) × (right : List (H × List ℕ)) × (leaves ≡ left ++ (pointer, text) ∷ right)
      × AreOn side key true (left ++ (pointer, text) ∷ []) × AreOn side key false right

  -- the first of these leaves after this side of the key, or the last before it
  abbrev pub IsBesideKeyOrNone : End → List (H × List ℕ) → Option H → Type 0
  IsBesideKeyOrNone First leaves found = IsFirstAfter leaves found
  IsBesideKeyOrNone Last leaves found = IsLastBefore leaves found

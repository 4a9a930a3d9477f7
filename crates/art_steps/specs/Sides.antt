-- Sides of a key in the order of texts, and the leaf of a tree beside one.
use Rattle.std.specs.Prelude.{◌≡◌, ℕ, Bool, true, false, ◌||◌, List, ◌∷◌, ◌++◌, All, nat_eq}
use Rattle.std.specs.List.{starts_with}
use Rattle.std.specs.Ordering.{is_lt, is_le}
use Rattle.std.specs.declared.cmp.Ordering.{Ordering}
use Rattle.art_bytes.specs.Text.{text_order}
use Rattle.art_arena.specs.declared.ends.End.{End}
use Rattle.art_arena.specs.declared.ends.End.TheVariants.{First, Last}
use Rattle.art_steps.specs.declared.place.Side.{Side}
use Rattle.art_steps.specs.declared.place.Side.TheVariants.{Before, After, AfterBegun}

-- whether a text of this order against a key comes before the side, begun by the key or not
abbrev pub comes_before : Side → Ordering → Bool → Bool
comes_before Before order begun = is_lt order
comes_before After order begun = is_le order
comes_before AfterBegun order begun = is_lt order || begun

-- whether a text comes before this side of a key
abbrev pub is_before : Side → List ℕ → List ℕ → Bool
is_before side key text = comes_before side (text_order text key) (starts_with nat_eq text key)

-- the end is the last
abbrev pub is_last : End → Bool
is_last First = false
is_last Last = true

module _ {H : Type 0} (side : Side) (key : List ℕ) where
  -- each of these leaves is before this side of the key, or each is after it
  abbrev pub AreOn : Bool → List (H × List ℕ) → Type 0
  AreOn before leaves = All (λ leaf. is_before side key leaf.1 ≡ before) leaves

  -- this is the first of these leaves after this side of the key, or the last one before it; all before it are
  -- before that side, and all after it are after
  pub record IsBesideKey (leaves : List (H × List ℕ)) (end : End) (pointer : H) : Type 0 where
    pub text : List ℕ
    pub left : List (H × List ℕ)
    pub right : List (H × List ℕ)
    pub is : leaves ≡ left ++ (pointer, text) ∷ right
    pub left_before : AreOn true left
    pub right_after : AreOn false right
    pub here : is_before side key text ≡ is_last end

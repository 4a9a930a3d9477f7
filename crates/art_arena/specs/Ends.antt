-- The two ends of a list of children or of leaves.
use Rattle.std.specs.Prelude.{◌≡◌, ℕ, List, [], ◌∷◌, ◌++◌, Option}
use Rattle.art_nodes.specs.ChildMap.{ChildMap, first_pair, last_pair}
use Rattle.art_arena.specs.declared.ends.End.{End}
use Rattle.art_arena.specs.declared.ends.End.TheVariants.{First, Last}

-- a member before the others, or after them
abbrev pub put_at : {X : Type 0} → End → X → List X → List X
put_at First member others = member ∷ others
put_at Last member others = others ++ member ∷ []

module _ {H : Type 0} where
  -- the pair of the least byte, or of the greatest
  abbrev pub end_pair : End → ChildMap H → Option (ℕ × H)
  end_pair First children = first_pair children
  end_pair Last children = last_pair children

  -- the leaf is the first of these, or the last
  abbrev pub IsAtEnd : End → List (H × List ℕ) → H → Type 0
  IsAtEnd end leaves pointer = (text : List ℕ) × (others : List (H × List ℕ)) × (leaves ≡ put_at end (pointer, text) others)

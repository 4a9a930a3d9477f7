-- Removals that need a node: the parent of the leaf has the fewest children of its kind.
use Rattle.std.specs.Prelude.{◌≡◌, ◌⊎◌, ℕ, List, length}
use Rattle.art_arena.specs.Trees.{Tree, Leaf, Inner, Branches, NoBranch, Branch, branch_roots, texts, IsWellFormed}

-- a node of so many children is of a smaller kind with one less
abbrev pub IsFewest : ℕ → Type 0
IsFewest count = (count ≡ 5) ⊎ ((count ≡ 17) ⊎ (count ≡ 49))

module _ {H : Type 0} where
  -- one of these branches is a leaf of this text
  abbrev pub HasLeafOf : Branches H → List ℕ → Type 0
  HasLeafOf NoBranch x = ⊥
  HasLeafOf (Branch byte (Leaf pointer text) others) x = (text ≡ x) ⊎ HasLeafOf others x
  HasLeafOf (Branch byte (Inner pointer prefix branches) others) x = HasLeafOf others x

  abbrev mutual
    -- in this tree the parent of the leaf of this text has 5, 17 or 49 branches
    pub ShrinksWithout : Tree H → List ℕ → Type 0
    ShrinksWithout (Leaf pointer text) x = ⊥
    ShrinksWithout (Inner pointer prefix branches) x = (IsFewest (length (branch_roots branches)) × HasLeafOf branches x) ⊎ SomeShrinksWithout branches x

    pub SomeShrinksWithout : Branches H → List ℕ → Type 0
    SomeShrinksWithout NoBranch x = ⊥
    SomeShrinksWithout (Branch byte tree others) x = ShrinksWithout tree x ⊎ SomeShrinksWithout others x

-- so has it in the tree of these texts
pub record NeedsNode (H : Type 0) (all : List (List ℕ)) (x : List ℕ) : Type 0 where
  pub tree : Tree H
  pub sound : IsWellFormed tree
  pub same_texts : texts tree ≡ all
  pub shrinks : ShrinksWithout tree x

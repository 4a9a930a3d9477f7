-- A walk along the pages of a tree that changes. No public clause cites this.
use Rattle.std.specs.Prelude.{◌≡◌, ℕ, List, [], ◌∷◌, ◌++◌, Option, Some, None}
use Rattle.art_arena.specs.Arena.{LeafPtr, NodeArena}
use Rattle.art_tree.specs.Entries.{entries_of}
use Rattle.art_index.specs.Places.{IsPlaced}
use Rattle.art_pages.specs.Contents.{PageContents}

module _ {K V : Type 0} {P : ℕ} (arena : NodeArena (List ℕ) (PageContents K V) P) where
  -- the pages up to this leaf are the first ones, and the rest is behind it; none is before the rest where there is no leaf
  abbrev pub ArePagesUpTo : Option (LeafPtr (List ℕ) (PageContents K V) P) → List (List ℕ × PageContents K V) → List (List ℕ × PageContents K V) → Type 0
  ArePagesUpTo None seen rest = (seen ≡ []) × (entries_of (λ anchor. anchor) arena ≡ rest)
  ArePagesUpTo (Some leaf) seen rest =
      (here : IsPlaced (λ anchor. anchor) arena leaf) × (here.left ++ here.entry ∷ [] ≡ seen) × (here.right ≡ rest)

  -- the rest begins with this leaf; there is no rest where there is no leaf
  abbrev pub IsAt : Option (LeafPtr (List ℕ) (PageContents K V) P) → List (List ℕ × PageContents K V) → List (List ℕ × PageContents K V) → Type 0
  IsAt None seen rest = (entries_of (λ anchor. anchor) arena ≡ seen) × (rest ≡ [])
  IsAt (Some leaf) seen rest =
      (here : IsPlaced (λ anchor. anchor) arena leaf) × (here.left ≡ seen) × (here.entry ∷ here.right ≡ rest)

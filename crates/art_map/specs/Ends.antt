-- The first page of a tree that has entries, and the last one.
use Rattle.std.specs.Prelude.{◌≡◌, ◌≢◌, ℕ, List, [], map, Option, Some, None}
use Rattle.art_arena.specs.Arena.{LeafPtr, NodeArena}
use Rattle.art_index.specs.Places.{IsPlaced}
use Rattle.art_pages.specs.Contents.{PageContents}
use Rattle.art_map.specs.Pages.{entries_in}
use Rattle.art_map.specs.Trees.{page_of, pages_of}

module _ {K V : Type 0} {P : ℕ} (arena : NodeArena (List ℕ) (PageContents K V) P) where
  -- all pages before this leaf are empty, or all pages where there is no leaf
  abbrev pub IsEmptyBefore : Option (LeafPtr (List ℕ) (PageContents K V) P) → Type 0
  IsEmptyBefore None = entries_in (pages_of arena) ≡ []
  IsEmptyBefore (Some leaf) = (here : IsPlaced (λ anchor. anchor) arena leaf) × (entries_in (map page_of here.left) ≡ [])

  -- the leaf of the first page with entries, or none where no page has any
  abbrev pub IsFirstFilled : Option (LeafPtr (List ℕ) (PageContents K V) P) → Type 0
  IsFirstFilled None = entries_in (pages_of arena) ≡ []
  IsFirstFilled (Some leaf) =
      (here : IsPlaced (λ anchor. anchor) arena leaf) × (entries_in (map page_of here.left) ≡ []) × (here.entry.1.entries ≢ [])

  -- all pages behind this leaf are empty, or all pages where there is no leaf
  abbrev pub IsEmptyBehind : Option (LeafPtr (List ℕ) (PageContents K V) P) → Type 0
  IsEmptyBehind None = entries_in (pages_of arena) ≡ []
  IsEmptyBehind (Some leaf) = (here : IsPlaced (λ anchor. anchor) arena leaf) × (entries_in (map page_of here.right) ≡ [])

  -- the leaf of the last page with entries, or none where no page has any
  abbrev pub IsLastFilled : Option (LeafPtr (List ℕ) (PageContents K V) P) → Type 0
  IsLastFilled None = entries_in (pages_of arena) ≡ []
  IsLastFilled (Some leaf) =
      (here : IsPlaced (λ anchor. anchor) arena leaf) × (entries_in (map page_of here.right) ≡ []) × (here.entry.1.entries ≢ [])

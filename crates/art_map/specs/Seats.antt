-- Places between the entries of a map: a page, by its leaf or none where it is the first page, and an index of it.
use Rattle.std.specs.Prelude.{◌≡◌, ℕ, ◌+◌, ◌≤◌, Bool, true, false, List, ◌++◌, All, length, map, take, drop, Option, None, Some}
use Rattle.art_nodes.specs.Pointers.{slab_key}
use Rattle.art_arena.specs.Arena.{LeafPtr, NodeArena}
use Rattle.art_tree.specs.Entries.{entries_of}
use Rattle.art_index.specs.Places.{IsPlaced}
use Rattle.art_pages.specs.Contents.{PageContents}
use Rattle.art_map.specs.Pages.{entries_in}
use Rattle.art_map.specs.Trees.{page_of}
use Rattle.art_map.specs.Runs.{rank_at}

-- a test fails at all items before an index, and passes at all behind it
abbrev pub IsGapOf : {X : Type 0} → (X → Bool) → List X → ℕ → Type 0
IsGapOf test list place = All (λ item. test item ≡ false) (take place list) × All (λ item. test item ≡ true) (drop place list)

module _ {K V : Type 0} {P : ℕ} (head : List (K × V)) (arena : NodeArena (List ℕ) (PageContents K V) P) where
  -- the leaf is in the tree, and the index is not behind the end of its page
  abbrev pub IsInPage : Option (LeafPtr (List ℕ) (PageContents K V) P) → ℕ → Type 0
  IsInPage None index = index ≤ length head
  IsInPage (Some leaf) index = (here : IsPlaced (λ anchor. anchor) arena leaf) × (index ≤ length here.entry.1.entries)

  -- how many entries of the map are before such a place
  abbrev pub seat_place : Option (LeafPtr (List ℕ) (PageContents K V) P) → ℕ → ℕ
  seat_place None index = index
  seat_place (Some leaf) index =
      length (head ++ entries_in (map page_of (take (rank_at arena (slab_key leaf)) (entries_of (λ anchor. anchor) arena)))) + index

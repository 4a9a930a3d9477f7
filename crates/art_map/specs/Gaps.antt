-- The gap of a query among entries: behind all that are below the query, and before or behind the one that is equal to it.
use Rattle.std.specs.Prelude.{◌≡◌, ℕ, ◌≤◌, Bool, true, false, List, ◌++◌, All, length, map, take, drop, if◌then◌else◌, Option, None, Some}
use Rattle.std.specs.Ordering.{is_lt, is_le}
use Rattle.std.specs.declared.cmp.Ordering.{Ordering}
use Rattle.art_arena.specs.Arena.{LeafPtr, NodeArena}
use Rattle.art_index.specs.Places.{IsPlaced}
use Rattle.art_pages.specs.Contents.{PageContents}
use Rattle.art_map.specs.Pages.{entries_in}
use Rattle.art_map.specs.Trees.{page_of, pages_of}

module _ {K : Type 0} (compare : K → Ordering) (after : Bool) where
  -- whether a key is behind the gap of a query: above the query, or equal to it where the gap is before an equal key
  abbrev pub is_behind : K → Bool
  is_behind key = if after then is_lt (compare key) else is_le (compare key)

  module _ {V : Type 0} where
    abbrev pub AllBefore : List (K × V) → Type 0
    AllBefore entries = All (λ entry. is_behind entry.0 ≡ false) entries

    abbrev pub AllBehind : List (K × V) → Type 0
    AllBehind entries = All (λ entry. is_behind entry.0 ≡ true) entries

    -- the gap is before the entry at an index
    abbrev pub IsGapAt : List (K × V) → ℕ → Type 0
    IsGapAt entries place = (place ≤ length entries) × AllBefore (take place entries) × AllBehind (drop place entries)

    -- the gap is in the page of this leaf, or where there is no leaf in the first page, before the entry at an index
    abbrev pub IsSeat : {P : ℕ} → List (K × V) → NodeArena (List ℕ) (PageContents K V) P → Option (LeafPtr (List ℕ) (PageContents K V) P) → ℕ → Type 0
    IsSeat head arena None place = IsGapAt head place × AllBehind (entries_in (pages_of arena))
    IsSeat head arena (Some leaf) place =
        (here : IsPlaced (λ anchor. anchor) arena leaf) × AllBefore (head ++ entries_in (map page_of here.left))
        × IsGapAt here.entry.1.entries place × AllBehind (entries_in (map page_of here.right))

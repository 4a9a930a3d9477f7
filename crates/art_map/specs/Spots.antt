-- Where the entry of a query is in a map by pages, or where it belongs.
use Rattle.std.specs.Prelude.{◌≡◌, ◌≢◌, ◌<◌, ℕ, List, [], ◌++◌, ◌⊎◌, map, Option, Some, None, Ok, Err, Result, IsSome}
use Rattle.std.specs.BTreeMap.{insert_entry}
use Rattle.std.specs.declared.cmp.Ordering.{Ordering}
use Rattle.std.specs.declared.cmp.Ordering.TheVariants.{Greater}
use Rattle.art_bytes.specs.Text.{text_order}
use Rattle.art_arena.specs.Arena.{LeafPtr, NodeArena}
use Rattle.art_index.specs.Places.{IsPlaced}
use Rattle.art_pages.specs.Contents.{PageContents}
use Rattle.art_pages.specs.Entries.{AllAbove, AllBelow, IsPlaceOf, get_by}
use Rattle.art_map.specs.Pages.{entries_in, AnchorsAbove}
use Rattle.art_map.specs.Trees.{page_of, pages_of}

-- a place is that of an entry, or lies behind one
abbrev pub IsBehindSome : Result ℕ ℕ → Type 0
IsBehindSome (Ok place) = Unit {0}
IsBehindSome (Err place) = 0 < place

-- a place among so many entries is that of an entry, or lies before one
abbrev pub IsBeforeSome : Result ℕ ℕ → ℕ → Type 0
IsBeforeSome (Ok place) len = Unit {0}
IsBeforeSome (Err place) len = place < len

module _ {K V : Type 0} (compare : K → Ordering) (x : List ℕ) (head : List (K × V)) where
  -- the query, whose encoding is a text, belongs to the first page, there at this index; these are the other pages
  pub record IsSpotInHead (pages : List (List ℕ × List (K × V))) (place : Result ℕ ℕ) : Type 0 where
    pub at : IsPlaceOf compare head place
    pub behind : AllAbove compare (entries_in pages)
    pub above : AnchorsAbove x pages

  module _ {P : ℕ} where
    -- the query belongs to the page of this leaf, there at this index
    pub record IsSpotInLeaf (arena : NodeArena (List ℕ) (PageContents K V) P) (leaf : LeafPtr (List ℕ) (PageContents K V) P) (place : Result ℕ ℕ) : Type 0 where
      pub here : IsPlaced (λ anchor. anchor) arena leaf
      pub at : IsPlaceOf compare here.entry.1.entries place
      pub before : AllBelow compare (head ++ entries_in (map page_of here.left))
      pub behind : AllAbove compare (entries_in (map page_of here.right))
      pub low : text_order here.entry.0 x ≢ Greater
      pub above : AnchorsAbove x (map page_of here.right)

    -- either, in a tree: the first page where there is no leaf
    abbrev pub IsSpotOver : NodeArena (List ℕ) (PageContents K V) P → Option (LeafPtr (List ℕ) (PageContents K V) P) → Result ℕ ℕ → Type 0
    IsSpotOver arena None place = IsSpotInHead (pages_of arena) place
    IsSpotOver arena (Some leaf) place = IsSpotInLeaf arena leaf place

    -- the same where there may be no tree
    abbrev pub IsPageSpot : {T : Type 0} → (T → NodeArena (List ℕ) (PageContents K V) P) → Option T → Option (LeafPtr (List ℕ) (PageContents K V) P) → Result ℕ ℕ → Type 0
    IsPageSpot arena None None place = IsSpotInHead [] place
    IsPageSpot arena None (Some leaf) place = ⊥
    IsPageSpot arena (Some tree) leaf place = IsSpotOver (arena tree) leaf place

-- entries have a key now: they had it before, or it was added to them with a value that was made; so many entries more
abbrev pub HaveKeyNow : {K V : Type 0} → (K → K → Ordering) → K → (V → Type 0) → List (K × V) → List (K × V) → ℕ → Type 0
HaveKeyNow {V = V} cmp key made old new more =
    ((more ≡ 0) × (new ≡ old) × IsSome (get_by (cmp key) old)) ⊎ ((more ≡ 1) × (get_by (cmp key) old ≡ None) × ((value : V) × made value × (new ≡ insert_entry cmp old key value)))

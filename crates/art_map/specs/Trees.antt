-- Pages in the leaves of a tree.
use Rattle.std.specs.Prelude.{ℕ, List, map, [], Option, Some, None}
use Rattle.art_arena.specs.Arena.{NodeArena}
use Rattle.art_pages.specs.Contents.{PageContents}
use Rattle.art_tree.specs.Entries.{entries_of}

module _ {K V : Type 0} where
  -- a page of a tree: its anchor, and its entries
  abbrev pub page_of : List ℕ × PageContents K V → List ℕ × List (K × V)
  page_of leaf = (leaf.0, leaf.1.entries)

module _ {K V : Type 0} {P : ℕ} where
  -- the pages of an arena, ascending by their anchors
  abbrev pub pages_of : NodeArena (List ℕ) (PageContents K V) P → List (List ℕ × List (K × V))
  pages_of arena = map page_of (entries_of (λ anchor. anchor) arena)

-- the pages of a tree, if there is one
abbrev pub pages_in : {T K V : Type 0} → (T → List (List ℕ × List (K × V))) → Option T → List (List ℕ × List (K × V))
pages_in pages None = []
pages_in pages (Some tree) = pages tree

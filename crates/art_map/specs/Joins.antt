-- Pages that can be joined. No public clause cites this.
use Rattle.std.specs.Prelude.{◌≡◌, ℕ, ◌+◌, ◌≤◌, List, [], ◌∷◌, ◌++◌, length}
use Rattle.art_arena.specs.Arena.{LeafPtr, NodeArena}
use Rattle.art_index.specs.Places.{IsPlaced}
use Rattle.art_pages.specs.Contents.{PageContents}

module _ {K V : Type 0} {P : ℕ} (arena : NodeArena (List ℕ) (PageContents K V) P) where
  -- the page of the second leaf is the one behind that of the first, which has memory for the entries of both
  pub record AreJoinable (first second : LeafPtr (List ℕ) (PageContents K V) P) : Type 0 where
    pub low : IsPlaced (λ anchor. anchor) arena first
    pub high : IsPlaced (λ anchor. anchor) arena second
    pub left : high.left ≡ low.left ++ low.entry ∷ []
    pub right : low.right ≡ high.entry ∷ high.right
    pub room : length low.entry.1.entries + length high.entry.1.entries ≤ low.entry.1.capacity

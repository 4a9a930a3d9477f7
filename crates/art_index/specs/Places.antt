-- Where a leaf stands in the list of a tree's entries, and the floor of a text.
use Rattle.std.specs.Prelude.{◌≡◌, ◌≢◌, ℕ, List, [], ◌∷◌, ◌++◌, All, Option, Some, None}
use Rattle.std.specs.Option.{option_map}
use Rattle.std.specs.declared.cmp.Ordering.TheVariants.{Less, Greater}
use Rattle.art_bytes.specs.Text.{text_order}
use Rattle.art_nodes.specs.Leaf.{leaf_key, leaf_value}
use Rattle.art_nodes.specs.Pointers.{slab_key}
use Rattle.art_nodes.specs.declared.leaf_node.LeafNode.{LeafNode}
use Rattle.art_arena.specs.Arena.{LeafPtr, NodeArena}
use Rattle.art_arena.specs.Links.{leaf_at}
use Rattle.art_tree.specs.Entries.{entries_of}

-- key and value of a leaf
abbrev pub leaf_entry : {K V : Type 0} {P : ℕ} → LeafNode K V P → K × V
leaf_entry leaf = (leaf_key leaf, leaf_value leaf)

module _ {K V : Type 0} (text : K → List ℕ) where
  -- each of these entries is below a text, or above it
  abbrev pub AllTextsBelow : List ℕ → List (K × V) → Type 0
  AllTextsBelow x entries = All (λ entry. text_order (text entry.0) x ≡ Less) entries

  abbrev pub AllTextsAbove : List ℕ → List (K × V) → Type 0
  AllTextsAbove x entries = All (λ entry. text_order (text entry.0) x ≡ Greater) entries

module _ {K V : Type 0} {P : ℕ} (text : K → List ℕ) (arena : NodeArena K V P) where
  -- the leaf holds this entry of the list of a tree's entries, with these before it and these after it
  pub record IsPlaced (leaf : LeafPtr K V P) : Type 0 where
    pub left : List (K × V)
    pub entry : K × V
    pub right : List (K × V)
    pub holds : option_map leaf_entry (leaf_at arena (slab_key leaf)) ≡ Some entry
    pub list : entries_of text arena ≡ left ++ entry ∷ right

  -- the entry of this leaf is the last one that is not above a text
  pub record IsFloor (x : List ℕ) (leaf : LeafPtr K V P) : Type 0 where
    pub place : IsPlaced leaf
    pub low : text_order (text place.entry.0) x ≢ Greater
    pub above : AllTextsAbove text x place.right

  -- the same of the leaf that was found; none where all entries are above the text
  abbrev pub IsFloorFound : List ℕ → Option (LeafPtr K V P) → Type 0
  IsFloorFound x None = AllTextsAbove text x (entries_of text arena)
  IsFloorFound x (Some leaf) = IsFloor x leaf

  -- the leaf with the first entry, or none where there is no entry
  abbrev pub IsFirst : Option (LeafPtr K V P) → Type 0
  IsFirst None = entries_of text arena ≡ []
  IsFirst (Some leaf) = (place : IsPlaced leaf) × (place.left ≡ [])

  -- the leaf with the last entry, or none where there is no entry
  abbrev pub IsLast : Option (LeafPtr K V P) → Type 0
  IsLast None = entries_of text arena ≡ []
  IsLast (Some leaf) = (place : IsPlaced leaf) × (place.right ≡ [])

  -- the leaf with the entry after this place, or none where this is the last
  abbrev pub IsNext : {leaf : LeafPtr K V P} → IsPlaced leaf → Option (LeafPtr K V P) → Type 0
  IsNext here None = here.right ≡ []
  IsNext here (Some next) =
      (there : IsPlaced next) × (there.left ≡ here.left ++ here.entry ∷ []) × (here.right ≡ there.entry ∷ there.right)

  -- the leaf with the entry before this place, or none where this is the first
  abbrev pub IsPrevious : {leaf : LeafPtr K V P} → IsPlaced leaf → Option (LeafPtr K V P) → Type 0
  IsPrevious here None = here.left ≡ []
  IsPrevious here (Some previous) =
      (there : IsPlaced previous) × (here.left ≡ there.left ++ there.entry ∷ []) × (there.right ≡ here.entry ∷ here.right)

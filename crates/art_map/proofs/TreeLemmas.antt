-- The pages of a tree around one of its leaves.
use Rattle.std.proofs.Common.{◌≡◌, ◌∙◌, ℕ, List, ◌∷◌, ◌++◌, map, ap}
use Rattle.std.proofs.lemmas.List.{map-append}
use Rattle.std.proofs.lemmas.List.Elements.{All-map}
use Rattle.std.specs.declared.cmp.Ordering.TheVariants.{Greater}
use Rattle.art_bytes.specs.Text.{text_order}
use Rattle.art_arena.specs.Arena.{LeafPtr, NodeArena}
use Rattle.art_pages.specs.Contents.{PageContents}
use Rattle.art_tree.specs.Entries.{entries_of}
use Rattle.art_index.specs.Places.{IsPlaced, AllTextsAbove}
use Rattle.art_map.specs.Pages.{AnchorsAbove}
use Rattle.art_map.specs.Trees.{page_of, pages_of}

module _ {K V : Type 0} where
  -- pages of a list of leaves
  abbrev pub pages : List (List ℕ × PageContents K V) → List (List ℕ × List (K × V))
  pages leaves = map page_of leaves

  pub anchors-above : (x : List ℕ) (leaves : List (List ℕ × PageContents K V)) → AllTextsAbove (λ anchor. anchor) x leaves → AnchorsAbove x (pages leaves)
  anchors-above x leaves = All-map (λ page. text_order page.0 x ≡ Greater) page_of leaves

module _ {K V : Type 0} {P : ℕ} (arena : NodeArena (List ℕ) (PageContents K V) P) (leaf : LeafPtr (List ℕ) (PageContents K V) P) where
  pub pages-around : (place : IsPlaced (λ anchor. anchor) arena leaf) → pages_of arena ≡ pages place.left ++ page_of place.entry ∷ pages place.right
  pages-around place = ap (map page_of) place.list ∙ map-append page_of place.left (place.entry ∷ place.right)

module _ {K V : Type 0} {P : ℕ} (old new : NodeArena (List ℕ) (PageContents K V) P) (leaf : LeafPtr (List ℕ) (PageContents K V) P) (page : PageContents K V) where
  -- with another page in a leaf
  pub pages-changed : (place : IsPlaced (λ anchor. anchor) old leaf)
      → (now : IsPlaced (λ anchor. anchor) new leaf) × (now.left ≡ place.left) × (now.entry ≡ (place.entry.0, page)) × (now.right ≡ place.right)
      → pages_of new ≡ pages place.left ++ (place.entry.0, page.entries) ∷ pages place.right
  pages-changed place now = pages-around new leaf now.0 ∙ (λ i. pages (now.1 i) ++ page_of (now.2 i) ∷ pages (now.3 i))

module _ {K V : Type 0} {P : ℕ} (old new : NodeArena (List ℕ) (PageContents K V) P) (leaf : LeafPtr (List ℕ) (PageContents K V) P) where
  -- without a leaf
  pub pages-without : (place : IsPlaced (λ anchor. anchor) old leaf) → entries_of (λ anchor. anchor) new ≡ place.left ++ place.right
      → pages_of new ≡ pages place.left ++ pages place.right
  pages-without place now = ap (map page_of) now ∙ map-append page_of place.left place.right

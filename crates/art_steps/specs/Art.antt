-- A tree with its arena, and its invariant.
use Rattle.std.specs.Prelude.{◌≡◌, ◌≢◌, ℕ, ◌<◌, ◌^◌, List, length, map, All, Contains, Option, Some, None}
use Rattle.art_nodes.specs.Pointers.{opaque_key}
use Rattle.art_nodes.specs.declared.pointers.OpaqueNodePtr.{OpaqueNodePtr}
use Rattle.art_arena.specs.Arena.{NodeArena, Nothing, held}
use Rattle.art_arena.specs.Links.{IsLinkedList}
use Rattle.art_arena.specs.Standing.{IsTreeIn}
use Rattle.art_arena.specs.Trees.{Tree, places, texts}
use Rattle.art_steps.specs.Loading.{HasSmallestKinds, leaf_pointers}

-- an arena and the root of its tree, if it has one
pub record Art (A R : Type 0) : Type 0 where
  pub arena : A
  pub root : Option R

module _ {K V : Type 0} {P : ℕ} (text : K → List ℕ) (arena : NodeArena K V P) where
  -- a well-formed tree with the smallest kinds stands at the root, each text has fewer than 2^32
  -- bytes, its leaves are linked in their order, and the arena holds nothing else
  pub record IsAlone (root : OpaqueNodePtr K V P) (tree : Tree (OpaqueNodePtr K V P)) : Type 0 where
    pub is_tree : IsTreeIn text arena root tree
    pub smallest_kinds : HasSmallestKinds tree
    pub short : All (λ x. length x < 2 ^ 32) (texts tree)
    pub is_linked : IsLinkedList arena (map opaque_key (leaf_pointers tree))
    pub no_others : (pointer : OpaqueNodePtr K V P) → held arena pointer ≢ Nothing → Contains (places tree) pointer

  -- with no root the arena holds nothing, and with a root such a tree
  abbrev pub IsArt : Option (OpaqueNodePtr K V P) → Type 0
  IsArt None = (pointer : OpaqueNodePtr K V P) → held arena pointer ≡ Nothing
  IsArt (Some root) = (tree : Tree (OpaqueNodePtr K V P)) × IsAlone root tree

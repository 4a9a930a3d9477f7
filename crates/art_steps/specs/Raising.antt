-- Loading: the trees of a plan in an arena. No public clause cites it.
use Rattle.std.specs.Prelude.{◌≡◌, ◌≢◌, ℕ, ◌<◌, List, map, length, slice_index_or}
use Rattle.art_nodes.specs.Pointers.{slab_key}
use Rattle.art_nodes.specs.declared.pointers.OpaqueNodePtr.{OpaqueNodePtr}
use Rattle.art_arena.specs.Arena.{LeafPtr, NodeArena, Nothing, held}
use Rattle.art_arena.specs.Links.{HoldsLeaf, text_at}
use Rattle.art_arena.specs.Standing.{StandsIn}
use Rattle.art_arena.specs.Trees.{Tree, root_of, leaves, places, IsWellFormed}
use Rattle.art_steps.specs.Loading.{HasSmallestKinds, Adds}
use Rattle.art_search.specs.Search.{leaf_pointer}

module _ {K V : Type 0} {P : ℕ} where
  -- each of these leaves is held
  abbrev pub HoldLeaves : NodeArena K V P → List (LeafPtr K V P) → Type 0
  HoldLeaves arena leaves =
      (i : ℕ) (d : LeafPtr K V P) → i < length leaves → HoldsLeaf arena (slab_key (slice_index_or leaves i d))

  -- each leaf with its text
  abbrev pub leaf_pairs : (K → List ℕ) → NodeArena K V P → List (LeafPtr K V P) → List (OpaqueNodePtr K V P × List ℕ)
  leaf_pairs text arena leaves = map (λ leaf. (leaf_pointer leaf, text_at text arena (slab_key leaf))) leaves

  -- the texts of the leaves
  abbrev pub leaf_texts : (K → List ℕ) → NodeArena K V P → List (LeafPtr K V P) → List (List ℕ)
  leaf_texts text arena leaves = map (λ leaf. text_at text arena (slab_key leaf)) leaves

  -- a well-formed tree of these leaves with the smallest kinds stands, and its inner nodes are all
  -- that is new
  pub record IsRaised (text : K → List ℕ) (old new : NodeArena K V P) (of : List (LeafPtr K V P)) (root : OpaqueNodePtr K V P) (tree : Tree (OpaqueNodePtr K V P)) : Type 0 where
    pub at_root : root_of tree ≡ root
    pub stands : StandsIn text new tree
    pub sound : IsWellFormed tree
    pub smallest_kinds : HasSmallestKinds tree
    pub in_order : leaves tree ≡ leaf_pairs text old of
    pub kept : (pointer : OpaqueNodePtr K V P) → held old pointer ≢ Nothing → held new pointer ≡ held old pointer
    pub adds : (before : NodeArena K V P) → Adds before old (map leaf_pointer of) → Adds before new (places tree)

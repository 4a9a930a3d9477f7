-- Leaves of a tree, each with its text, and the entries that they hold. No public clause cites this.
use Rattle.std.specs.Prelude.{◌≡◌, ℕ, List, [], ◌∷◌, map, Some}
use Rattle.art_nodes.specs.Leaf.{leaf_key, leaf_value}
use Rattle.art_nodes.specs.Pointers.{opaque_key}
use Rattle.art_nodes.specs.declared.pointers.OpaqueNodePtr.{OpaqueNodePtr}
use Rattle.art_nodes.specs.declared.leaf_node.LeafNode.{LeafNode}
use Rattle.art_arena.specs.Arena.{NodeArena, HeldLeaf, held}
use Rattle.art_arena.specs.Links.{leaf_at}
use Rattle.art_steps.specs.Dictionary.{entry_at}

-- the slab keys of leaves
abbrev pub slab_keys_of : {K V : Type 0} {P : ℕ} → List (OpaqueNodePtr K V P × List ℕ) → List ℕ
slab_keys_of all = map opaque_key (map (λ leaf. leaf.0) all)

module _ {K V : Type 0} {P : ℕ} (text : K → List ℕ) (arena : NodeArena K V P) where
  -- the leaf at the pointer holds the entry of this text
  pub record HoldsEntryOf (pointer : OpaqueNodePtr K V P) (x : List ℕ) : Type 0 where
    pub leaf : LeafNode K V P
    pub there : held arena pointer ≡ HeldLeaf leaf
    pub at : leaf_at arena (opaque_key pointer) ≡ Some leaf
    pub has : text (leaf_key leaf) ≡ x
    pub is : entry_at text arena x ≡ Some (leaf_key leaf, leaf_value leaf)

  -- each of these leaves holds the entry of its text
  abbrev pub AllHold : List (OpaqueNodePtr K V P × List ℕ) → Type 0
  AllHold [] = Unit {0}
  AllHold (leaf ∷ leaves) = HoldsEntryOf leaf.0 leaf.1 × AllHold leaves

-- The leaves that keep their pointers in a change of a tree.
use Rattle.std.specs.Prelude.{◌≡◌, ◌≢◌, ℕ, List}
use Rattle.art_nodes.specs.Leaf.{leaf_key, leaf_value}
use Rattle.art_nodes.specs.declared.pointers.OpaqueNodePtr.{OpaqueNodePtr}
use Rattle.art_nodes.specs.declared.leaf_node.LeafNode.{LeafNode}
use Rattle.art_arena.specs.Arena.{NodeArena, HeldLeaf, held}

-- each pointer that held a leaf with another text than this one holds a leaf with the same key and the same value
abbrev pub KeepsOtherLeaves : {K V : Type 0} {P : ℕ} → (K → List ℕ) → NodeArena K V P → NodeArena K V P → List ℕ → Type 0
KeepsOtherLeaves text old new x =
    (pointer : OpaqueNodePtr _ _ _) (leaf : LeafNode _ _ _) → held old pointer ≡ HeldLeaf leaf → text (leaf_key leaf) ≢ x →
    (now : LeafNode _ _ _) × (held new pointer ≡ HeldLeaf now) × (leaf_key now ≡ leaf_key leaf) × (leaf_value now ≡ leaf_value leaf)

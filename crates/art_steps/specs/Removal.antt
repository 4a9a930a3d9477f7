-- Removal: its refusals and its results.
use Rattle.std.specs.Prelude.{◌≡◌, ◌⊎◌, ℕ, List, Contains, Option, Some, None, length, Result, IfOk, OnErr}
use Rattle.art_header.specs.declared.node_type.NodeType.{NodeType}
use Rattle.art_nodes.specs.Inner.{Inner}
use Rattle.art_nodes.specs.Leaf.{leaf_key}
use Rattle.art_nodes.specs.declared.pointers.OpaqueNodePtr.{OpaqueNodePtr}
use Rattle.art_nodes.specs.declared.leaf_node.LeafNode.{LeafNode}
use Rattle.art_arena.specs.Arena.{NodeArena, HeldInner, HeldLeaf, held, SameCapacity, SameNodes}
use Rattle.art_steps.specs.Art.{IsArt}
use Rattle.art_steps.specs.Dictionary.{entry_at, SameOtherEntries}
use Rattle.art_steps.specs.Leaves.{KeepsOtherLeaves}
use Rattle.art_steps.specs.Room.{FreesOneEach, GrowsOnlyWhere, LacksRoomToRemove}

module _ {K V : Type 0} {P : ℕ} (text : K → List ℕ) where
  -- a leaf has this text, and its parent has 5, 17 or 49 children: without the leaf the parent is
  -- of a smaller kind
  pub record NeedsSmallerNode (arena : NodeArena K V P) (x : List ℕ) : Type 0 where
    pub pointer : OpaqueNodePtr K V P
    pub leaf : LeafNode K V P
    pub is_held : held arena pointer ≡ HeldLeaf leaf
    pub has_text : text (leaf_key leaf) ≡ x
    pub parent : OpaqueNodePtr K V P
    pub node : Inner (OpaqueNodePtr K V P)
    pub parent_held : held arena parent ≡ HeldInner node
    pub byte : ℕ
    pub is_child : Contains node.children (byte, pointer)
    pub count : (length node.children ≡ 5) ⊎ ((length node.children ≡ 17) ⊎ (length node.children ≡ 49))

  -- the text has no entry now, and every other text the entry that it had
  pub record IsLeft (old new : NodeArena K V P) (x : List ℕ) : Type 0 where
    pub gone : entry_at text new x ≡ None
    pub others : SameOtherEntries text old new x
    pub leaves : KeepsOtherLeaves text old new x

  -- the tree at this root, if there is one, has all entries but that of the text, which was this one
  pub record IsRemoved (old new : NodeArena K V P) (x : List ℕ) (root : Option (OpaqueNodePtr K V P)) (entry : K × V) : Type 0 where
    pub art : IsArt text new root
    pub left : IsLeft old new x
    pub was : entry_at text old x ≡ Some entry

  -- the same, and no memory is taken
  pub record RemovesFreely (old new : NodeArena K V P) (x : List ℕ) (removed : Option (OpaqueNodePtr K V P) × (K × V)) : Type 0 where
    pub is_removed : IsRemoved old new x removed.0 removed.1
    pub frees : FreesOneEach old new
    pub capacity : SameCapacity old new

  -- the entry of a text is removed below this root, and returned with the root that is left; or nothing
  -- changes, where a parent needs a smaller node and its kind has no room
  pub record RemovesEntry {E : Type 0} (old new : NodeArena K V P) (root : OpaqueNodePtr K V P) (x : List ℕ) (result : Result (Option (OpaqueNodePtr K V P) × (K × V)) E) : Type 0 where
    pub removed : IfOk result (λ (root, entry). IsRemoved old new x root entry)
    pub refused : OnErr result (NeedsSmallerNode old x)
    pub nodes_kept : OnErr result (SameNodes old new)
    pub takes_no_memory : (¬ NeedsSmallerNode old x) → FreesOneEach old new
    pub no_room : OnErr result ((kind : NodeType) × LacksRoomToRemove text old (Some root) x kind)
    pub memory : GrowsOnlyWhere old new (LacksRoomToRemove text old (Some root) x)

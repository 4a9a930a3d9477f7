-- Spare capacity before and after a change of a tree.
use Rattle.std.specs.Prelude.{◌≡◌, ◌≢◌, ◌⊎◌, ◌↔◌, ℕ, ◌<◌, ◌≤◌, ◌+◌, List, length, Contains, Option, Some, None}
use Rattle.art_header.specs.declared.node_type.NodeType.{NodeType}
use Rattle.art_nodes.specs.declared.pointers.OpaqueNodePtr.{OpaqueNodePtr}
use Rattle.art_arena.specs.Arena.{NodeArena, capacity, leaf_count, room}
use Rattle.art_arena.specs.Trees.{Tree, texts, IsWellFormed}
use Rattle.art_steps.specs.Art.{IsAlone}
use Rattle.art_steps.specs.Dictionary.{HasEntry}
use Rattle.art_steps.specs.NodeCounts.{nodes_of}

module _ {K V : Type 0} {P : ℕ} (text : K → List ℕ) (arena : NodeArena K V P) where
  -- the tree at this root, if there is one, has fewer nodes of a kind than this
  abbrev pub HasFewer : Option (OpaqueNodePtr K V P) → NodeType → ℕ → Type 0
  HasFewer None kind count = 0 < count
  HasFewer (Some root) kind count = (tree : Tree (OpaqueNodePtr K V P)) × IsAlone text arena root tree × (nodes_of kind tree < count)

  -- the well-formed tree of these texts has more nodes of this kind than the tree at this root, and there is no spare capacity for the kind
  pub record LacksRoomFor (root : Option (OpaqueNodePtr K V P)) (IsText : List ℕ → Type 0) (kind : NodeType) : Type 0 where
    pub tree : Tree (OpaqueNodePtr K V P)
    pub sound : IsWellFormed tree
    pub texts_are : (x : List ℕ) → Contains (texts tree) x ↔ IsText x
    pub needed : HasFewer root kind (nodes_of kind tree)
    pub none : room arena kind ≡ 0

  -- the same of the texts that have an entry and this one
  abbrev pub LacksRoomToInsert : Option (OpaqueNodePtr K V P) → List ℕ → NodeType → Type 0
  LacksRoomToInsert root x kind = LacksRoomFor root (λ other. HasEntry text arena other ⊎ (other ≡ x)) kind

  -- the same of the texts that have an entry, but this one
  abbrev pub LacksRoomToRemove : Option (OpaqueNodePtr K V P) → List ℕ → NodeType → Type 0
  LacksRoomToRemove root x kind = LacksRoomFor root (λ other. HasEntry text arena other × (other ≢ x)) kind

module _ {K V : Type 0} {P : ℕ} where
  -- the capacity of each kind is unchanged, or this is true of the kind
  abbrev pub GrowsOnlyWhere : NodeArena K V P → NodeArena K V P → (NodeType → Type 0) → Type 0
  GrowsOnlyWhere old new IsNeeded = (kind : NodeType) → (capacity new kind ≡ capacity old kind) ⊎ IsNeeded kind

  -- each kind has spare capacity for at most one node more than before
  abbrev pub FreesOneEach : NodeArena K V P → NodeArena K V P → Type 0
  FreesOneEach old new = (kind : NodeType) → room new kind ≤ room old kind + 1

  -- no well-formed tree of so many texts has more nodes of this kind than fit with no allocation
  abbrev pub FitsEachTree : NodeArena K V P → NodeType → ℕ → Type 0
  FitsEachTree arena kind most =
      (tree : Tree (OpaqueNodePtr K V P)) → IsWellFormed tree → length (texts tree) ≤ most → nodes_of kind tree ≤ capacity arena kind

  -- of this kind there is room for so many entries more: spare capacity for as many nodes, or capacity for each tree of
  -- all those entries
  abbrev pub HasRoomOf : NodeType → NodeArena K V P → ℕ → Type 0
  HasRoomOf kind arena count = (count ≤ room arena kind) ⊎ FitsEachTree arena kind (leaf_count arena + count)

  -- so many inserts and removals find room for each node that they need
  abbrev pub HasEntryRoom : NodeArena K V P → ℕ → Type 0
  HasEntryRoom arena count = (kind : NodeType) → HasRoomOf kind arena count

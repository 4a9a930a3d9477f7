-- What a tree ends as, where a value of it is borrowed.
use Rattle.std.specs.Prelude.{◌≡◌, ◌≢◌, ℕ, List, Option, None, Some, Result, OnSome}
use Rattle.std.specs.Borrow.{RattleType, Fml, MutBor, Lends, LendsSo, LendsSoOk}
use Rattle.std.specs.Option.{option_map, option_map_or}
use Rattle.art_nodes.specs.Leaf.{leaf_key, with_value}
use Rattle.art_nodes.specs.declared.leaf_node.LeafNode.{LeafNode}
use Rattle.art_nodes.specs.declared.pointers.OpaqueNodePtr.{OpaqueNodePtr}
use Rattle.art_nodes.specs.contracts.pointers.OpaqueNodePtr as pointer
use Rattle.art_arena.specs.Arena.{NodeArena, HeldLeaf, Changes, SameNodes, SameRoom, held}
use Rattle.art_arena.specs.Lending.{arena_row}
use Rattle.art_arena.specs.Links.{with_value_at}
use Rattle.art_steps.specs.Art.{Art, IsArt}
use Rattle.art_steps.specs.Dictionary.{HasKeys, SameEntries, SameOtherEntries, entry_at}
use Rattle.art_steps.specs.Leaves.{KeepsOtherLeaves}
use Rattle.art_steps.specs.Room.{GrowsOnlyWhere, LacksRoomToInsert}
use Rattle.art_tree.specs.contracts.tree.Rooted.{the_row}

-- the type of a tree with its arena, as the logic names it
abbrev pub tree_row : (K V P : RattleType) → (K.Denot → List ℕ) → (K.Denot → Type 0) → RattleType
tree_row K V P text is_key =
    the_row (arena_row K V P) (pointer.the_row K V P) (record { holds_one_tree = λ arena root. IsArt text arena root × HasKeys text is_key arena })

module _ {K V : Type 0} {P : ℕ} (text : K → List ℕ) where
  -- the entry of this text has this value now; its key, every other entry, every node but its leaf, the root and
  -- spare capacity are unchanged
  pub record HasValueNow (old new : Art (NodeArena K V P) (OpaqueNodePtr K V P)) (x : List ℕ) (value : V) : Type 0 where
    pub entry : entry_at text new.arena x ≡ option_map (λ entry. (entry.0, value)) (entry_at text old.arena x)
    pub others : SameOtherEntries text old.arena new.arena x
    pub nodes : (at : OpaqueNodePtr K V P) × (leaf : LeafNode K V P) × (held old.arena at ≡ HeldLeaf leaf) × (text (leaf_key leaf) ≡ x)
        × Changes old.arena new.arena at (HeldLeaf (with_value leaf value))
    pub room : SameRoom old.arena new.arena
    pub root : new.root ≡ old.root

-- a tree ends with the value that was left behind the reference in the entry of this text, or unchanged
abbrev pub LendsValueAt : (K V P : RattleType) (text : K.Denot → List ℕ) (is_key : K.Denot → Type 0) →
    MutBor (tree_row K V P text is_key).Denot → List ℕ → Option (MutBor V.Denot) → Fml
LendsValueAt K V P text is_key tree x result =
    LendsSo (tree_row K V P text is_key) V tree result (λ now value. OnSome result (HasValueNow text tree.now now x value)) (λ now. now ≡ tree.now)

module _ {K V : Type 0} {P : ℕ} (text : K → List ℕ) (old new : Art (NodeArena K V P) (OpaqueNodePtr K V P)) where
  -- the entry of the key's text has this value now, under the key that it had, or in a new entry of this key; every
  -- other entry is unchanged and in its leaf, and memory was taken only for nodes that the new entry needs. Where the
  -- entry was there, every node but its leaf, the root and spare capacity are unchanged
  pub record HasEntryNow (key : K) (value : V) : Type 0 where
    pub entry : entry_at text new.arena (text key) ≡ Some (option_map_or (λ entry. entry.0) (entry_at text old.arena (text key)) key, value)
    pub others : SameOtherEntries text old.arena new.arena (text key)
    pub leaves : KeepsOtherLeaves text old.arena new.arena (text key)
    pub memory : GrowsOnlyWhere old.arena new.arena (LacksRoomToInsert text old.arena old.root (text key))
    pub present_kept : entry_at text old.arena (text key) ≢ None → HasValueNow text old new (text key) value

  -- every entry, every node and the root are unchanged, and memory was taken only for nodes that an entry of this
  -- text needs
  pub record IsSameTree (x : List ℕ) : Type 0 where
    pub entries : SameEntries text old.arena new.arena
    pub nodes : SameNodes old.arena new.arena
    pub root : new.root ≡ old.root
    pub memory : GrowsOnlyWhere old.arena new.arena (LacksRoomToInsert text old.arena old.root x)

-- a tree ends with the value that was left behind the reference in the entry of the key's text, or unchanged
abbrev pub LendsEntryValue : (K V P : RattleType) (text : K.Denot → List ℕ) (is_key : K.Denot → Type 0) {E : Type 0} →
    MutBor (tree_row K V P text is_key).Denot → K.Denot → Result (MutBor V.Denot) E → Fml
LendsEntryValue K V P text is_key tree key result =
    LendsSoOk (tree_row K V P text is_key) V tree result (λ now value. HasEntryNow text tree.now now key value) (λ now. IsSameTree text tree.now now (text key))

-- a tree ends with the value that was left behind the reference in the leaf under this slab key
abbrev pub LendsLeafValue : (K V P : RattleType) (text : K.Denot → List ℕ) (is_key : K.Denot → Type 0) →
    MutBor (tree_row K V P text is_key).Denot → ℕ → MutBor V.Denot → Fml
LendsLeafValue K V P text is_key tree key result =
    Lends (tree_row K V P text is_key) V tree result (λ value. record { arena = with_value_at tree.now.arena key value; root = tree.now.root })

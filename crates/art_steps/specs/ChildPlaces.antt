-- Insertion: the place of a new leaf among the leaves, and of a node under its parent. No public
-- clause cites it.
use Rattle.std.specs.Prelude.{◌≡◌, ℕ, List, Option, Some, None}
use Rattle.std.specs.declared.ops.Bound.TheVariants.{Excluded, Unbounded}
use Rattle.art_nodes.specs.ChildMap.{ChildMap, IsAscending, child_at, key_bytes, pairs_within}
use Rattle.art_nodes.specs.Inner as nodes
use Rattle.art_nodes.specs.declared.pointers.OpaqueNodePtr.{OpaqueNodePtr}
use Rattle.art_arena.specs.Arena.{NodeArena, HeldInner, held, Changes, SameNodes}
use Rattle.art_arena.specs.Ends.{put_at}
use Rattle.art_arena.specs.Standing.{StandsIn}
use Rattle.art_arena.specs.Trees.{Inner, Branches, branch_roots, IsSound}
use Rattle.art_steps.specs.Edits.{IsBeside}
use Rattle.art_steps.specs.Contexts.{join}
use Rattle.art_arena.specs.declared.ends.End.{End}
use Rattle.art_arena.specs.declared.ends.End.TheVariants.{First, Last}

module _ {H : Type 0} where
  -- the pairs of greater bytes, whose first one is next to the byte, or those of lesser bytes, whose last one is
  abbrev pub pairs_on : End → ChildMap H → ℕ → ChildMap H
  pairs_on First children byte = pairs_within children (Excluded byte) Unbounded
  pairs_on Last children byte = pairs_within children Unbounded (Excluded byte)

  -- the branches after a place, or those before it
  abbrev pub branches_on : End → Branches H → Branches H → Branches H
  branches_on First before after = after
  branches_on Last before after = before

  -- the child is next to the byte: the first one above it, or the last one below it
  abbrev pub IsChildBeside : End → ChildMap H → ℕ → H → Type 0
  IsChildBeside end children byte child =
      (b : ℕ) × (others : ChildMap H) × (pairs_on end children byte ≡ put_at end (b, child) others)

-- the leaf is beside a gap between these leaves
abbrev pub IsLeafBeside : {H : Type 0} → End → List (H × List ℕ) → List (H × List ℕ) → H → Type 0
IsLeafBeside end left right pointer = (text : List ℕ) × IsBeside end left right (pointer, text)

module _ {K V : Type 0} {P : ℕ} where
  -- a sound inner node stands at the pointer, and a new byte goes between these of its branches
  pub record HasGapUnder (text : K → List ℕ) (arena : NodeArena K V P) (pointer : OpaqueNodePtr K V P) (byte : ℕ) : Type 0 where
    pub path : List ℕ
    pub prefix : List ℕ
    pub before : Branches (OpaqueNodePtr K V P)
    pub after : Branches (OpaqueNodePtr K V P)
    pub stands : StandsIn text arena (Inner pointer prefix (join before after))
    pub sound : IsSound path (Inner pointer prefix (join before after))
    pub sides : (end : End) → pairs_on end (branch_roots (join before after)) byte ≡ branch_roots (branches_on end before after)

  -- the parent, if there is one, is an inner node whose bytes ascend, with this child under the byte
  abbrev pub HasChildUnder : NodeArena K V P → Option (OpaqueNodePtr K V P × ℕ) → OpaqueNodePtr K V P → Type 0
  HasChildUnder arena None child = Unit {0}
  HasChildUnder arena (Some (parent, byte)) child =
      (node : nodes.Inner (OpaqueNodePtr K V P)) × (held arena parent ≡ HeldInner node)
      × (child_at node.children byte ≡ Some child) × IsAscending (key_bytes node.children)

  -- the node is the child of the parent under the byte now; or, where there is no parent, the root
  abbrev pub IsChildOrRoot : NodeArena K V P → NodeArena K V P → Option (OpaqueNodePtr K V P × ℕ) →
      OpaqueNodePtr K V P → OpaqueNodePtr K V P → OpaqueNodePtr K V P → Type 0
  IsChildOrRoot old new None node root now = SameNodes old new × (now ≡ node)
  IsChildOrRoot old new (Some (parent, byte)) node root now =
      (now ≡ root) × ((above : nodes.Inner (OpaqueNodePtr K V P)) → held old parent ≡ HeldInner above →
      Changes old new parent (HeldInner (nodes.node_with_child above byte node)))

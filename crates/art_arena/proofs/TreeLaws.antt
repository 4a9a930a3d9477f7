-- What the functions of `laws` say of trees and of lists, as lemmas for the proofs of crates above.
use Rattle.std.proofs.Common.{◌≡◌, ◌≤◌, ◌++◌, ℕ, List, length, subst}
use Rattle.art_nodes.specs.ChildMap.{IsAscending, key_bytes}
use Rattle.art_nodes.specs.Inner as nodes
use Rattle.art_nodes.specs.declared.pointers.OpaqueNodePtr.{OpaqueNodePtr}
use Rattle.art_nodes.specs.declared.leaf_node.LeafNode.{LeafNode}
use Rattle.art_arena.specs.Arena.{NodeArena, Held, HeldInner, Nothing, Changes, held}
use Rattle.art_arena.specs.Links.{AreDistinct}
use Rattle.art_arena.specs.Standing.{AllStandIn, NodeStands, StandsIn, leaf_text}
use Rattle.art_arena.specs.Trees.{AreSound, Branches, Inner, Tree, places, IsSound}
use Rattle.art_arena.proofs.PlaceLemmas.{all-beside, places-distinct, stands-beside}
pub use Rattle.art_arena.proofs.KeptLemmas.{list-beside, list-exchanged, stands-exchanged, stands-relinked}
pub use Rattle.art_arena.proofs.KnitLemmas.{first-member, knit-member, next-member, previous-member}
pub use Rattle.art_arena.proofs.LeafLemmas.{IsLinkedList-allocated, IsLinkedList-where_kept}
pub use Rattle.art_arena.proofs.TreeLemmas.{GoesOn, IsLongestCommonPrefix-node, texts-apart, texts-ascend, texts-begin, texts-go-on, texts-same, texts-some}

module _ {K V : Type 0} {P : ℕ} (text : K → List ℕ) where
  -- each pointer of a sound tree that stands in an arena is at one place of it
  pub places-apart : (arena : NodeArena K V P) (path : List ℕ) (tree : Tree (OpaqueNodePtr K V P)) → StandsIn text arena tree → IsSound path tree → AreDistinct (places tree)
  places-apart arena path tree stands sound = places-distinct P (leaf_text text) (held arena) path tree sound stands

  -- what stands still stands after an allocation
  module _ (old new : NodeArena K V P) (pointer : OpaqueNodePtr K V P) (now : Held (OpaqueNodePtr K V P) (LeafNode K V P)) where
    pub stands-allocated : (tree : Tree (OpaqueNodePtr K V P)) → held old pointer ≡ Nothing → Changes old new pointer now → StandsIn text old tree → StandsIn text new tree
    stands-allocated tree was_free changes stands = stands-beside P (leaf_text text) (held old) (held new) pointer was_free changes.others tree stands

    pub all-allocated : (branches : Branches (OpaqueNodePtr K V P)) → held old pointer ≡ Nothing → Changes old new pointer now → AllStandIn text old branches → AllStandIn text new branches
    all-allocated branches was_free changes stand = all-beside P (leaf_text text) (held old) (held new) pointer was_free changes.others branches stand

  -- a node over sound trees that stand makes, once allocated, a tree that stands and is sound
  pub made-tree : (old new : NodeArena K V P) (pointer : OpaqueNodePtr K V P) (node : nodes.Inner (OpaqueNodePtr K V P)) (path prefix : List ℕ) (branches : Branches (OpaqueNodePtr K V P)) → held old pointer ≡ Nothing → Changes old new pointer (HeldInner node) → NodeStands P node prefix branches
      → 2 ≤ length node.children → IsAscending (key_bytes node.children) → AllStandIn text old branches → AreSound (path ++ prefix) branches → StandsIn text new (Inner pointer prefix branches) × IsSound path (Inner pointer prefix branches)
  made-tree old new pointer node path prefix branches was_free changes shows two ascend stand sound = (
    (node, changes.changed, shows, all-allocated old new pointer (HeldInner node) branches was_free changes stand),
    (subst (λ children. 2 ≤ length children) shows.children two, subst (λ children. IsAscending (key_bytes children)) shows.children ascend, sound),
  )

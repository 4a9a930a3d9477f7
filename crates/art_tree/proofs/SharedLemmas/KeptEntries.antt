-- Where all nodes are unchanged, all entries are.
use Rattle.art_tree.proofs.Names.{ℕ, List, Option, None, Some, OpaqueNodePtr, NodeArena, SameNodes, IsArt, SameEntries}
use Rattle.art_tree.proofs.InsertLemmas.EntryLemmas.{empty-stays}
use Rattle.art_steps.proofs.SharedLemmas.ExchangedTree.{entries-stay}
use Rattle.art_tree.proofs.SharedLemmas.TreeLaws.{apart-there}

module _ {K V : Type 0} {P : ℕ} (text : K → List ℕ) (old new : NodeArena K V P) (same : SameNodes old new) where
  pub art-entries-stay : (root : Option (OpaqueNodePtr K V P)) → IsArt text old root → SameEntries text old new
  art-entries-stay None nothing = empty-stays text old new same nothing
  art-entries-stay (Some root) (tree, alone) = entries-stay text old new same root tree alone (apart-there alone)

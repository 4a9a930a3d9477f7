-- The laws of trees, at a tree that is alone in its arena.
use Rattle.art_tree.proofs.Names.{◌≡◌, ℕ, List, [], AllPairs, Less, text_order, OpaqueNodePtr, NodeArena, AreDistinct, Tree, texts, places, IsAlone, places-apart, texts-apart, texts-ascend}
use Rattle.art_steps.proofs.SharedLemmas.DictionaryLemmas.{AreApart}

module _ {K V : Type 0} {P : ℕ} {text : K → List ℕ} {arena : NodeArena K V P} {root : OpaqueNodePtr K V P} {tree : Tree (OpaqueNodePtr K V P)} (alone : IsAlone text arena root tree) where
  -- no text of a tree is a prefix of another
  pub apart-there : AreApart (texts tree)
  apart-there = texts-apart [] tree alone.is_tree.sound

  -- they ascend
  pub ascend-there : AllPairs (λ a b. text_order a b ≡ Less) (texts tree)
  ascend-there = texts-ascend [] tree alone.is_tree.sound

  -- and each of its pointers is at one place
  pub distinct-places : AreDistinct (places tree)
  distinct-places = places-apart text arena [] tree alone.is_tree.stands alone.is_tree.sound

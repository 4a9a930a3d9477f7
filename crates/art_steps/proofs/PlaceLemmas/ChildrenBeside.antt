-- The child of a node that is next to a byte which has none, and the leaf beside the byte's place.
use Rattle.art_steps.proofs.Names.{◌≡◌, ◌∙◌, ℕ, List, [], ◌∷◌, ◌++◌, length, length-append, sym, ap, arith, ChildMap, OpaqueNodePtr, NodeArena, HeldInner, held, IsAtEnd, put_at, AllStandIn, TreeAt, Branches, branch_leaves, branch_roots, leaves, AreSound, End, First, Last, join, HasGapUnder, IsChildBeside, IsLeafBeside, branches_on, pairs_on}
use Rattle.art_nodes.specs.Inner.{Inner}
use Rattle.art_steps.proofs.SharedLemmas.BranchLemmas.{roots-join, stand-split, sound-split}
use Rattle.art_steps.proofs.SharedLemmas.EndBranches.{IsEndBranch, end-branch, end-leaves, end-sound, end-stands}

module _ {H : Type 0} where
  -- the branches on one side of a place are sound where all are
  pub side-sound : (end : End) (path : List ℕ) (before after : Branches H) → AreSound path (join before after) → AreSound path (branches_on end before after)
  side-sound First path before after sound = (sound-split path before after sound).1
  side-sound Last path before after sound = (sound-split path before after sound).0

  -- the leaf at the near end of one side is beside the place
  side-beside : (end : End) (before after : Branches H) (leaf : H) → IsAtEnd end (branch_leaves (branches_on end before after)) leaf → IsLeafBeside end (branch_leaves before) (branch_leaves after) leaf
  side-beside First before after leaf (x, others, is) = (x, (others, is))
  side-beside Last before after leaf (x, others, is) = (x, (others, is))

module _ {K V : Type 0} {P : ℕ} (text : K → List ℕ) (arena : NodeArena K V P) (pointer : OpaqueNodePtr K V P) (byte : ℕ) (place : HasGapUnder text arena pointer byte) where
  pub side-stands : (end : End) → AllStandIn text arena (join place.before place.after) → AllStandIn text arena (branches_on end place.before place.after)
  side-stands First stand = (stand-split text arena place.before place.after stand).1
  side-stands Last stand = (stand-split text arena place.before place.after stand).0

  -- the node's pairs on one side of the byte are the branches there
  side-is : (end : End) (pairs : ChildMap (OpaqueNodePtr K V P)) → ((node : Inner (OpaqueNodePtr K V P)) → held arena pointer ≡ HeldInner node → pairs_on end node.children byte ≡ pairs) → branch_roots (branches_on end place.before place.after) ≡ pairs
  side-is end pairs answer =
      let (node, holds, shows, stand) = place.stands in
      sym (place.sides end) ∙ ap (λ children. pairs_on end children byte) (sym shows.children) ∙ answer node holds

  -- there is a child on one side
  pub some-beside : ((node : Inner (OpaqueNodePtr K V P)) → held arena pointer ≡ HeldInner node → (end : End) → pairs_on end node.children byte ≡ []) → ⊥
  some-beside none =
      let none_after : branch_roots place.after ≡ [] = side-is First [] (λ node holds. none node holds First) in
      let none_before : branch_roots place.before ≡ [] = side-is Last [] (λ node holds. none node holds Last) in
      absurd (omega (arith, place.sound.0, ap length (roots-join place.before place.after), length-append (branch_roots place.before) (branch_roots place.after), ap length none_after, ap length none_before))

  module _ (end : End) (child : OpaqueNodePtr K V P) (beside : (node : Inner (OpaqueNodePtr K V P)) → held arena pointer ≡ HeldInner node → IsChildBeside end node.children byte child) where
    abbrev pub side : Branches (OpaqueNodePtr K V P)
    side = branches_on end place.before place.after

    -- the pair of the child is at the near end of one side
    pub found : (b : ℕ) × (others : ChildMap (OpaqueNodePtr K V P)) × (branch_roots side ≡ put_at end (b, child) others)
    found =
        let (node, holds, shows, stand) = place.stands in
        let (b, others, is) = beside node holds in
        (b, others, sym (place.sides end) ∙ ap (λ children. pairs_on end children byte) (sym shows.children) ∙ is)

    pub branch : IsEndBranch end side found.0 child
    branch = end-branch end side found.0 child found.1 found.2

    -- so a tree stands there
    abbrev pub tree-beside : TreeAt text arena child
    tree-beside = record {
      tree = branch.tree;
      path = (place.path ++ place.prefix) ++ found.0 ∷ [];
      at_root = branch.at_root;
      stands = end-stands text arena end side found.0 child branch (side-stands end place.stands.3);
      sound = end-sound text arena end side found.0 child branch (place.path ++ place.prefix) (side-sound end (place.path ++ place.prefix) place.before place.after place.sound.2);
    }

    -- and the leaf at its near end is beside the place
    pub leaf-beside : (leaf : OpaqueNodePtr K V P) → IsAtEnd end (leaves tree-beside.tree) leaf → IsLeafBeside end (branch_leaves place.before) (branch_leaves place.after) leaf
    leaf-beside leaf at_end = side-beside end place.before place.after leaf (end-leaves end side found.0 child branch leaf at_end)

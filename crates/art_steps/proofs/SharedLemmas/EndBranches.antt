-- The branch at one end of branches.
use Rattle.art_steps.proofs.Names.{◌≡◌, ◌∙◌, ℕ, suc, ◌-◌, List, [], ◌∷◌, ◌++◌, length, slice_get, Some, sym, ap, subst, arith, append_assoc, append-nil, same_Some, ChildMap, OpaqueNodePtr, NodeArena, IsAtEnd, end_pair, put_at, AllStandIn, StandsIn, Tree, Branches, NoBranch, Branch, branch_leaves, branch_roots, leaves, root_of, AreSound, IsSound, End, First, Last, join}
use Rattle.art_steps.proofs.SharedLemmas.BranchLemmas.{last-same, leaves-join, stand-split, sound-split}

module _ {H : Type 0} where
  -- of all branches but the one at an end, those before it and those after it
  abbrev pub before_end : End → Branches H → Branches H
  before_end First others = NoBranch
  before_end Last others = others

  abbrev pub after_end : End → Branches H → Branches H
  after_end First others = others
  after_end Last others = NoBranch

-- the branch at the end is under this byte, and has this child
pub record IsEndBranch {H : Type 0} (end : End) (branches : Branches H) (byte : ℕ) (child : H) : Type 0 where
  pub tree : Tree H
  pub others : Branches H
  pub is : branches ≡ join (before_end end others) (Branch byte tree (after_end end others))
  pub at_root : root_of tree ≡ child

module _ {H : Type 0} where
  -- the pair at an end of a child map, and the others
  pub end-pair : (end : End) (children : ChildMap H) (pair : ℕ × H) → end_pair end children ≡ Some pair → (others : ChildMap H) × (children ≡ put_at end pair others)
  end-pair First [] pair is = absurd (cc)
  end-pair First (x ∷ children) pair is = (children, ap (λ p. p ∷ children) (same_Some x pair is))
  end-pair Last [] pair is = absurd (cc)
  end-pair Last (x ∷ []) pair is = ([], ap (λ p. p ∷ []) (same_Some x pair is))
  end-pair Last (x ∷ y ∷ children) pair is =
      let count : ℕ = length children in
      let outer : suc (suc count) - 1 ≡ suc count = omega arith in
      let inner : count ≡ suc count - 1 = omega arith in
      let tail : slice_get (x ∷ y ∷ children) (suc count) ≡ Some pair = subst (λ k. slice_get (x ∷ y ∷ children) k ≡ Some pair) outer is in
      let later : slice_get (y ∷ children) count ≡ Some pair = tail in
      let rest = end-pair Last (y ∷ children) pair (subst (λ k. slice_get (y ∷ children) k ≡ Some pair) inner later) in
      (x ∷ rest.0, ap (λ more. x ∷ more) rest.1)

  -- and of the branches that have that child map
  pub end-branch : (end : End) (branches : Branches H) (byte : ℕ) (child : H) (others : ChildMap H) → branch_roots branches ≡ put_at end (byte, child) others → IsEndBranch end branches byte child
  end-branch First NoBranch byte child others is = absurd (cc)
  end-branch First (Branch b tree more) byte child others is =
      let one : ◌≡◌ {A = ℕ × H} (b, root_of tree) (byte, child) = cc in
      record { tree = tree; others = more; is = ap (λ pair. Branch pair.0 tree more) one; at_root = ap (λ pair. pair.1) one }
  end-branch Last NoBranch byte child [] is = absurd (cc)
  end-branch Last NoBranch byte child (x ∷ others) is = absurd (cc)
  end-branch Last (Branch b tree NoBranch) byte child others is =
      let one = (last-same [] others (b, root_of tree) (byte, child) is).1 in
      record { tree = tree; others = NoBranch; is = ap (λ pair. Branch pair.0 tree NoBranch) one; at_root = ap (λ pair. pair.1) one }
  end-branch Last (Branch b tree (Branch c other more)) byte child [] is = absurd (cc)
  end-branch Last (Branch b tree (Branch c other more)) byte child (x ∷ others) is =
      let tail : branch_roots (Branch c other more) ≡ others ++ (byte, child) ∷ [] = cc in
      let found = end-branch Last (Branch c other more) byte child others tail in
      record { tree = found.tree; others = Branch b tree found.others; is = ap (λ rest. Branch b tree rest) found.is; at_root = found.at_root }

  -- the leaf at that end of its tree is at the end of all
  pub end-leaves : (end : End) (branches : Branches H) (byte : ℕ) (child : H) (branch : IsEndBranch end branches byte child) (leaf : H) → IsAtEnd end (leaves branch.tree) leaf → IsAtEnd end (branch_leaves branches) leaf
  end-leaves First branches byte child branch leaf (x, more, is) = (x, more ++ branch_leaves branch.others, ap branch_leaves branch.is ∙ ap (λ all. all ++ branch_leaves branch.others) is)
  end-leaves Last branches byte child branch leaf (x, more, is) = (
    x,
    branch_leaves branch.others ++ more,
    ap branch_leaves branch.is ∙ leaves-join branch.others (Branch byte branch.tree NoBranch) ∙ ap (λ all. branch_leaves branch.others ++ all) (append-nil (leaves branch.tree) ∙ is)
        ∙ sym (append_assoc (branch_leaves branch.others) more ((leaf, x) ∷ [])),
  )

module _ {K V : Type 0} {P : ℕ} (text : K → List ℕ) (arena : NodeArena K V P) (end : End) (branches : Branches (OpaqueNodePtr K V P)) (byte : ℕ) (child : OpaqueNodePtr K V P) (branch : IsEndBranch end branches byte child) where
  -- its tree stands, and is sound
  pub end-stands : AllStandIn text arena branches → StandsIn text arena branch.tree
  end-stands stand = (stand-split text arena (before_end end branch.others) (Branch byte branch.tree (after_end end branch.others)) (subst (AllStandIn text arena) branch.is stand)).1.0

  pub end-sound : (path : List ℕ) → AreSound path branches → IsSound (path ++ byte ∷ []) branch.tree
  end-sound path sound = (sound-split path (before_end end branch.others) (Branch byte branch.tree (after_end end branch.others)) (subst (AreSound path) branch.is sound)).1.0

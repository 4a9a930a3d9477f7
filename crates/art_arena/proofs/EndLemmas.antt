-- The way to the first or the last leaf of a tree.
use Rattle.std.proofs.Common.{◌≡◌, ◌∙◌, ℕ, suc, ◌-◌, ◌≤◌, List, [], ◌∷◌, ◌++◌, length, slice_get, Some, refl, sym, ap, subst, arith, append_assoc, append-nil}
use Rattle.std.proofs.lemmas.Option.{same_Some}
use Rattle.art_nodes.specs.ChildMap.{first_pair, last_pair}
use Rattle.art_nodes.specs.Inner as nodes
use Rattle.art_nodes.specs.declared.pointers.OpaqueNodePtr.{OpaqueNodePtr}
use Rattle.art_arena.specs.Arena.{NodeArena}
use Rattle.art_arena.specs.Ends.{put_at, end_pair}
use Rattle.art_arena.specs.Standing.{AllStandIn}
use Rattle.art_arena.specs.Trees.{Branches, NoBranch, Branch, leaves, branch_leaves, branch_roots, root_of, IsSound, AreSound}
use Rattle.art_arena.specs.declared.ends.End.{End}
use Rattle.art_arena.specs.declared.ends.End.TheVariants.{First, Last}
use Rattle.art_arena.proofs.DescentLemmas.{BranchTo, IsBranchOf}
use Rattle.art_arena.proofs.Heights.{branches_height, tree_height}

module _ {H : Type 0} where
  -- this leaf, with its text, is at the end
  abbrev pub EndsIn : End → List (H × List ℕ) → H × List ℕ → Type 0
  EndsIn end all leaf = (others : List (H × List ℕ)) × (all ≡ put_at end leaf others)

  -- a leaf alone is at both ends
  pub ends-alone : (end : End) (leaf : H × List ℕ) → EndsIn end (leaf ∷ []) leaf
  ends-alone First leaf = ([], refl)
  ends-alone Last leaf = ([], refl)

  first-of : (xs ys : List (H × List ℕ)) (leaf : H × List ℕ) → EndsIn First xs leaf → EndsIn First (xs ++ ys) leaf
  first-of xs ys leaf (others, is) = (others ++ ys, ap (λ all. all ++ ys) is)

  last-of : (xs ys : List (H × List ℕ)) (leaf : H × List ℕ) → EndsIn Last ys leaf → EndsIn Last (xs ++ ys) leaf
  last-of xs ys leaf (others, is) = (xs ++ others, ap (λ all. xs ++ all) is ∙ sym (append_assoc xs others (leaf ∷ [])))

  last-alone : (xs : List (H × List ℕ)) (leaf : H × List ℕ) → EndsIn Last xs leaf → EndsIn Last (xs ++ []) leaf
  last-alone xs leaf (others, is) = (others, append-nil xs ∙ is)

module _ {K V : Type 0} {P : ℕ} (text : K → List ℕ) (arena : NodeArena K V P) where
  first-branch : (path : List ℕ) (branches : Branches (OpaqueNodePtr K V P)) (byte : ℕ) (child : OpaqueNodePtr K V P) → AllStandIn text arena branches → AreSound path branches → first_pair (branch_roots branches) ≡ Some (byte, child) → BranchTo text arena (EndsIn First) path branches child
  first-branch path NoBranch byte child stand sound is = absurd (cc)
  first-branch path (Branch b tree others) byte child (stands, stand) sound is =
      let lower : tree_height tree ≤ branches_height (Branch b tree others) = omega arith in
      let one : (b, root_of tree) ≡ (byte, child) = same_Some (b, root_of tree) (byte, child) is in
      let same : b ≡ byte = ap (λ pair. pair.0) one in
      record { byte = byte; tree = tree; at_root = ap (λ pair. pair.1) one; stands = stands; sound = subst (λ c. IsSound (path ++ c ∷ []) tree) same sound.0; lower = lower; kept = λ leaf at. first-of (leaves tree) (branch_leaves others) leaf at }

  last-branch : (path : List ℕ) (branches : Branches (OpaqueNodePtr K V P)) (byte : ℕ) (child : OpaqueNodePtr K V P) → AllStandIn text arena branches → AreSound path branches → last_pair (branch_roots branches) ≡ Some (byte, child) → BranchTo text arena (EndsIn Last) path branches child
  last-branch path NoBranch byte child stand sound is = absurd (cc)
  last-branch path (Branch b tree NoBranch) byte child (stands, stand) sound is =
      let lower : tree_height tree ≤ branches_height (Branch b tree NoBranch) = omega arith in
      let one : (b, root_of tree) ≡ (byte, child) = same_Some (b, root_of tree) (byte, child) is in
      let same : b ≡ byte = ap (λ pair. pair.0) one in
      record { byte = byte; tree = tree; at_root = ap (λ pair. pair.1) one; stands = stands; sound = subst (λ c. IsSound (path ++ c ∷ []) tree) same sound.0; lower = lower; kept = λ leaf at. last-alone (leaves tree) leaf at }
  last-branch path (Branch b tree (Branch c other more)) byte child (stands, stand) sound is =
      let roots = branch_roots (Branch c other more) in
      let count : ℕ = length (branch_roots more) in
      let outer : suc (suc count) - 1 ≡ suc count = omega arith in
      let inner : count ≡ suc count - 1 = omega arith in
      let tail : slice_get ((b, root_of tree) ∷ roots) (suc count) ≡ Some (byte, child) = subst (λ k. slice_get ((b, root_of tree) ∷ roots) k ≡ Some (byte, child)) outer is in
      let later : slice_get roots count ≡ Some (byte, child) = tail in
      let rest = last-branch path (Branch c other more) byte child stand sound.1 (subst (λ k. slice_get roots k ≡ Some (byte, child)) inner later) in
      record { byte = rest.byte; tree = rest.tree; at_root = rest.at_root; stands = rest.stands; sound = rest.sound; lower = omega (arith, rest.lower); kept = λ leaf at. last-of (leaves tree) (branch_leaves (Branch c other more)) leaf (rest.kept leaf at) }

  end-branch : (end : End) (path : List ℕ) (branches : Branches (OpaqueNodePtr K V P)) (byte : ℕ) (child : OpaqueNodePtr K V P) → AllStandIn text arena branches → AreSound path branches → end_pair end (branch_roots branches) ≡ Some (byte, child) → BranchTo text arena (EndsIn end) path branches child
  end-branch First path branches byte child stand sound is = first-branch path branches byte child stand sound is
  end-branch Last path branches byte child stand sound is = last-branch path branches byte child stand sound is

  pub end-branch-of : (end : End) (node : nodes.Inner (OpaqueNodePtr K V P)) (byte : ℕ) (child : OpaqueNodePtr K V P) → end_pair end node.children ≡ Some (byte, child) → IsBranchOf text arena (EndsIn end) node child
  end-branch-of end node byte child pair = λ path branches stand sound is. end-branch end path branches byte child stand sound (subst (λ children. end_pair end children ≡ Some (byte, child)) is pair)

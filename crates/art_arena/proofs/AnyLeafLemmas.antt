-- The way to some leaf of a tree.
use Rattle.std.proofs.Common.{ℕ, List, [], ◌∷◌, map, Contains, subst, inl, inr, arith}
use Rattle.std.proofs.lemmas.List.Elements.{Contains-append_left, Contains-append_right, Contains-append_cases, Contains-push_cases}
use Rattle.art_nodes.specs.Inner as nodes
use Rattle.art_nodes.specs.declared.pointers.OpaqueNodePtr.{OpaqueNodePtr}
use Rattle.art_arena.specs.Arena.{NodeArena}
use Rattle.art_arena.specs.Standing.{AllStandIn}
use Rattle.art_arena.specs.Trees.{Branches, NoBranch, Branch, leaves, branch_leaves, branch_roots, root_of, AreSound}
use Rattle.art_arena.proofs.DescentLemmas.{BranchTo, IsBranchOf}

module _ {K V : Type 0} {P : ℕ} (text : K → List ℕ) (arena : NodeArena K V P) where
  -- the branch of one of the children
  branch-of : (path : List ℕ) (branches : Branches (OpaqueNodePtr K V P)) (child : OpaqueNodePtr K V P) → AllStandIn text arena branches → AreSound path branches → Contains (map (λ pair. pair.1) (branch_roots branches)) child → BranchTo text arena Contains path branches child
  branch-of path NoBranch child stand sound inside = absurd (omega (arith, inside.1))
  branch-of path (Branch b tree others) child (stands, stand) sound inside =
      elim (Contains-append_cases (root_of tree ∷ []) (map (λ pair. pair.1) (branch_roots others)) child inside) [
        | inl first ↦ elim (Contains-push_cases [] (root_of tree) child first) [
          | inl none ↦ absurd (omega (arith, none.1))
          | inr same ↦ record { byte = b; tree = tree; at_root = same; stands = stands; sound = sound.0; lower = omega arith; kept = λ leaf there. Contains-append_left (leaves tree) (branch_leaves others) leaf there }
        ]
        | inr later ↦
            let found = branch-of path others child stand sound.1 later in
            record { byte = found.byte; tree = found.tree; at_root = found.at_root; stands = found.stands; sound = found.sound; lower = omega (arith, found.lower); kept = λ leaf there. Contains-append_right (leaves tree) (branch_leaves others) leaf (found.kept leaf there) }
      ]

  pub any-branch : (node : nodes.Inner (OpaqueNodePtr K V P)) (child : OpaqueNodePtr K V P) → Contains (map (λ pair. pair.1) node.children) child → IsBranchOf text arena Contains node child
  any-branch node child inside = λ path branches stand sound is. branch-of path branches child stand sound (subst (λ children. Contains (map (λ pair. pair.1) children) child) is inside)

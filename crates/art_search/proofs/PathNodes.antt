-- Search: the path of a way to a leaf, by the nodes that an arena holds.
use Rattle.art_search.proofs.Names.{◌≡◌, ◌∙◌, ℕ, suc, ◌≤◌, List, [], ◌∷◌, ◌++◌, Some, inl, inr, refl, sym, ap, subst, arith, eq-eqb, ne_eqb, IsAscendingFrom, key_bytes, child_at, OpaqueNodePtr, NodeArena, StandsIn, AllStandIn, Tree, Leaf, Inner, Branches, NoBranch, Branch, branch_roots, root_of, IsSound, AreSound, Steps, path_of, IsWay, IsWayUnder, HasChildAt, LeadsTo}

module _ {K V : Type 0} {P : ℕ} (text : K → List ℕ) (arena : NodeArena K V P) where
  -- a path of two steps or more leads on from any root
  from-any : (root other : OpaqueNodePtr K V P) (first second : OpaqueNodePtr K V P × ℕ) (steps : Steps K V P) (leaf : OpaqueNodePtr K V P) → LeadsTo arena root (path_of (first ∷ second ∷ steps)) leaf → LeadsTo arena other (path_of (first ∷ second ∷ steps)) leaf
  from-any root other first second [] leaf leads = leads
  from-any root other first second (third ∷ steps) leaf leads = from-any root other second third steps leaf leads

  one-more : (root child : OpaqueNodePtr K V P) (byte : ℕ) (steps : Steps K V P) (leaf : OpaqueNodePtr K V P) → HasChildAt arena root byte child → LeadsTo arena child (path_of steps) leaf → LeadsTo arena root (path_of ((root, byte) ∷ steps)) leaf
  one-more root child byte [] leaf has leads = (refl, subst (HasChildAt arena root byte) leads has)
  one-more root child byte ((parent, b) ∷ []) leaf has (same, leads) = (subst (HasChildAt arena root byte) (sym same) has, leads)
  one-more root child byte (parent ∷ second ∷ steps) leaf has leads = from-any child root parent second steps leaf leads

  -- the branch that a way takes
  record TakenBranch (branches : Branches (OpaqueNodePtr K V P)) (low byte : ℕ) (rest : Steps K V P) (leaf : OpaqueNodePtr K V P) : Type 0 where
    pub root : OpaqueNodePtr K V P
    pub at_least : low ≤ byte
    pub child : child_at (branch_roots branches) byte ≡ Some root
    pub leads : LeadsTo arena root (path_of rest) leaf

  mutual
    pub way-leads : (path : List ℕ) (tree : Tree (OpaqueNodePtr K V P)) (steps : Steps K V P) (leaf : OpaqueNodePtr K V P) → StandsIn text arena tree → IsSound path tree → IsWay tree steps leaf → LeadsTo arena (root_of tree) (path_of steps) leaf
    way-leads path (Leaf at x) steps leaf stands sound (none, same) = subst (λ all. LeadsTo arena at (path_of all) leaf) (sym none) (sym same)
    way-leads path (Inner at prefix branches) steps leaf (node, holds, shows, stand) sound (byte, rest, is, under) =
        let taken = branch-leads (path ++ prefix) branches 0 byte rest leaf stand sound.2 sound.1 under in
        let has : HasChildAt arena at byte taken.root = (node, holds, ap (λ children. child_at children byte) shows.children ∙ taken.child) in
        subst (λ all. LeadsTo arena at (path_of all) leaf) (sym is) (one-more at taken.root byte rest leaf has taken.leads)

    branch-leads : (path : List ℕ) (branches : Branches (OpaqueNodePtr K V P)) (low byte : ℕ) (rest : Steps K V P) (leaf : OpaqueNodePtr K V P) → AllStandIn text arena branches → AreSound path branches → IsAscendingFrom low (key_bytes (branch_roots branches))
        → IsWayUnder branches byte rest leaf → TakenBranch branches low byte rest leaf
    branch-leads path NoBranch low byte rest leaf stand sound ascend under = absurd under
    branch-leads path (Branch b tree others) low byte rest leaf stand sound ascend under = elim under [
      | inl (same, way) ↦ record { root = root_of tree; at_least = omega (arith, ascend.0, same); child = rw (eq-eqb b byte same) refl; leads = way-leads (path ++ b ∷ []) tree rest leaf stand.0 sound.0 way }
      | inr later ↦
          let taken = branch-leads path others (suc b) byte rest leaf stand.1 sound.1 ascend.2 later in
          record { root = taken.root; at_least = omega (arith, ascend.0, taken.at_least); child = rw (ne_eqb b byte (λ same. omega (arith, same, taken.at_least))) taken.child; leads = taken.leads }
    ]

-- Search: a path after one visit more.
use Rattle.art_search.proofs.Names.{◌≡◌, ◌∙◌, ◌⊎◌, inl, inr, ℕ, [], ◌∷◌, ◌++◌, refl, sym, ap, OpaqueNodePtr, TreePath, Root, ChildOfRoot, Normal, Steps, path_of, finished_with}
use Rattle.art_search.specs.declared.path.Visited.{Visited}
use Rattle.art_search.specs.declared.path.Visited.TheVariants.{NoNode, OneNode, TwoNodes}

module _ {K V : Type 0} {P : ℕ} where
  -- the path with one step more
  abbrev pub visited : TreePath K V P → OpaqueNodePtr K V P → ℕ → TreePath K V P
  visited Root node byte = ChildOfRoot node byte
  visited (ChildOfRoot parent above) node byte = Normal parent above node byte
  visited (Normal grandparent higher parent above) node byte = Normal parent above node byte

  pub path_of-visit : (steps : Steps K V P) (node : OpaqueNodePtr K V P) (byte : ℕ) → path_of (steps ++ (node, byte) ∷ []) ≡ visited (path_of steps) node byte
  path_of-visit [] node byte = refl
  path_of-visit (first ∷ []) node byte = refl
  path_of-visit (first ∷ second ∷ []) node byte = refl
  path_of-visit (first ∷ second ∷ third ∷ steps) node byte = path_of-visit (second ∷ third ∷ steps) node byte

  pub visit-kept : (steps : Steps K V P) (path after : TreePath K V P) (node : OpaqueNodePtr K V P) (byte : ℕ) → after ≡ visited path node byte → path ≡ path_of steps → after ≡ path_of (steps ++ (node, byte) ∷ [])
  visit-kept steps path after node byte is same = is ∙ ap (λ p. visited p node byte) same ∙ sym (path_of-visit steps node byte)

  -- a search that remembers a node more
  module _ (grandparent : OpaqueNodePtr K V P) (higher : ℕ) (parent : OpaqueNodePtr K V P) (above : ℕ) (node : OpaqueNodePtr K V P) (byte : ℕ) where
    abbrev before : Visited → TreePath K V P
    before count = finished_with count grandparent higher parent above

    pub first-remembered : (was is : Visited) → was ≡ NoNode → is ≡ OneNode → finished_with is parent above node byte ≡ visited (before was) node byte
    first-remembered was is none one = ap (λ v. finished_with v parent above node byte) one ∙ sym (ap (λ v. visited (before v) node byte) none)

    pub more-remembered : (was is : Visited) → (was ≡ OneNode) ⊎ (was ≡ TwoNodes) → is ≡ TwoNodes → finished_with is parent above node byte ≡ visited (before was) node byte
    more-remembered was is some two = ap (λ v. finished_with v parent above node byte) two ∙ sym (elim some [
      | inl one ↦ ap (λ v. visited (before v) node byte) one
      | inr both ↦ ap (λ v. visited (before v) node byte) both
    ])

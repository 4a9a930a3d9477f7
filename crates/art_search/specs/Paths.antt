-- Paths: the steps of a way through a tree, and the last two of them.
use Rattle.std.specs.Prelude.{◌≡◌, ℕ, List, [], ◌∷◌}
use Rattle.art_nodes.specs.declared.pointers.OpaqueNodePtr.{OpaqueNodePtr}
use Rattle.art_search.specs.declared.path.TreePath.{TreePath}
use Rattle.art_search.specs.declared.path.TreePath.TheVariants.{Root, ChildOfRoot, Normal}
use Rattle.art_search.specs.declared.path.Visited.{Visited}
use Rattle.art_search.specs.declared.path.Visited.TheVariants.{NoNode, OneNode, TwoNodes}

-- inner nodes from the root down, each with the byte that is taken from it
abbrev pub Steps : Type 0 → Type 0 → ℕ → Type 0
Steps K V P = List (OpaqueNodePtr K V P × ℕ)

module _ {K V : Type 0} {P : ℕ} where
  -- the root for no step, the child of the root for one, and else the last two steps
  abbrev pub path_of : Steps K V P → TreePath K V P
  path_of [] = Root
  path_of ((parent, byte) ∷ []) = ChildOfRoot parent byte
  path_of ((grandparent, parent_byte) ∷ (parent, byte) ∷ []) = Normal grandparent parent_byte parent byte
  path_of (_ ∷ parent ∷ child ∷ steps) = path_of (parent ∷ child ∷ steps)

  -- the path of the last nodes that a search has visited, by how many it remembers
  abbrev pub finished_with : Visited → OpaqueNodePtr K V P → ℕ → OpaqueNodePtr K V P → ℕ → TreePath K V P
  finished_with NoNode grandparent parent_byte parent byte = Root
  finished_with OneNode grandparent parent_byte parent byte = ChildOfRoot parent byte
  finished_with TwoNodes grandparent parent_byte parent byte = Normal grandparent parent_byte parent byte

  -- a search has visited these steps if it would return their path
  abbrev pub HasVisited : TreePath K V P → Steps K V P → Type 0
  HasVisited finished steps = finished ≡ path_of steps

-- Trees as plain data, and predicates on them by recursion.
use Rattle.std.specs.Prelude.{◌≡◌, ℕ, ◌<◌, ◌≤◌, ◌^◌, List, [], ◌∷◌, ◌++◌, length, map}
use Rattle.art_bytes.specs.Text.{IsPrefixOf}
use Rattle.art_nodes.specs.ChildMap.{ChildMap, IsAscending, key_bytes}

-- a leaf with its pointer and its text, or an inner node with its pointer, its prefix and its
-- branches
mutual
  pub data Tree (H : Type 0) : Type 0 where
    Leaf : H → List ℕ → Tree H
    Inner : H → List ℕ → Branches H → Tree H

  -- trees by ascending byte
  pub data Branches (H : Type 0) : Type 0 where
    NoBranch : Branches H
    Branch : ℕ → Tree H → Branches H → Branches H

module _ {H : Type 0} where
  -- the pointer of the topmost node
  abbrev pub root_of : Tree H → H
  root_of (Leaf pointer text) = pointer
  root_of (Inner pointer prefix branches) = pointer

  -- the bytes of the branches, each with the root of its tree
  abbrev pub branch_roots : Branches H → ChildMap H
  branch_roots NoBranch = []
  branch_roots (Branch byte tree others) = (byte, root_of tree) ∷ branch_roots others

  abbrev mutual
    -- the leaves from left to right, each with its text
    pub leaves : Tree H → List (H × List ℕ)
    leaves (Leaf pointer text) = (pointer, text) ∷ []
    leaves (Inner pointer prefix branches) = branch_leaves branches

    pub branch_leaves : Branches H → List (H × List ℕ)
    branch_leaves NoBranch = []
    branch_leaves (Branch byte tree others) = leaves tree ++ branch_leaves others

  -- the texts of the leaves from left to right
  abbrev pub texts : Tree H → List (List ℕ)
  texts tree = map (λ leaf. leaf.1) (leaves tree)

  abbrev pub branch_texts : Branches H → List (List ℕ)
  branch_texts branches = map (λ leaf. leaf.1) (branch_leaves branches)

  abbrev mutual
    -- all pointers of the tree
    pub places : Tree H → List H
    places (Leaf pointer text) = pointer ∷ []
    places (Inner pointer prefix branches) = pointer ∷ branch_places branches

    pub branch_places : Branches H → List H
    branch_places NoBranch = []
    branch_places (Branch byte tree others) = places tree ++ branch_places others

  abbrev mutual
    -- every leaf's text begins with the path to it and is shorter than 2 ^ 64, and every inner node
    -- has two branches or more, their bytes ascending
    pub IsSound : List ℕ → Tree H → Type 0
    IsSound path (Leaf pointer text) = IsPrefixOf path text × (length text < 2 ^ 64)
    IsSound path (Inner pointer prefix branches) =
        (2 ≤ length (branch_roots branches)) × IsAscending (key_bytes (branch_roots branches)) × AreSound (path ++ prefix) branches

    pub AreSound : List ℕ → Branches H → Type 0
    AreSound path NoBranch = Unit {0}
    AreSound path (Branch byte tree others) = IsSound (path ++ byte ∷ []) tree × AreSound path others

  -- sound from the root on
  abbrev pub IsWellFormed : Tree H → Type 0
  IsWellFormed tree = IsSound [] tree

module _ {H L : Type 0} where
  abbrev mutual
    -- two trees are equal but for their pointers
    pub SameButPointers : Tree H → Tree L → Type 0
    SameButPointers (Leaf pointer text) (Leaf other x) = text ≡ x
    SameButPointers (Inner pointer prefix branches) (Inner other p more) = (prefix ≡ p) × SameBranches branches more
    SameButPointers _ _ = ⊥

    pub SameBranches : Branches H → Branches L → Type 0
    SameBranches NoBranch NoBranch = Unit {0}
    SameBranches (Branch byte tree others) (Branch b t more) = (byte ≡ b) × SameButPointers tree t × SameBranches others more
    SameBranches _ _ = ⊥

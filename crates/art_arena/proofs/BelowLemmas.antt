-- The trees of the nodes of a tree.
use Rattle.std.proofs.Common.{◌≡◌, ◌≢◌, ◌∙◌, ℕ, List, [], ◌∷◌, ◌++◌, length, Some, refl, sym, ap, subst, inl, inr}
use Rattle.std.proofs.lemmas.Bool.Decides.{eqb_tells}
use Rattle.std.proofs.lemmas.List.{append_assoc, drop_at}
use Rattle.std.proofs.lemmas.Option.{same_Some}
use Rattle.art_nodes.specs.ChildMap.{child_at}
use Rattle.art_nodes.specs.Inner as nodes
use Rattle.art_nodes.specs.PrefixMatch.{HasPrefix}
use Rattle.art_nodes.specs.declared.pointers.OpaqueNodePtr.{OpaqueNodePtr}
use Rattle.art_arena.specs.Arena.{NodeArena, Nothing, HeldInner, HeldLeaf, Changes, held}
use Rattle.art_arena.specs.CommonPrefix.{IsSharedFrom}
use Rattle.art_arena.specs.Standing.{NodeStands, StandsIn, StandsUnder, AllStandIn, TreeAt, TreeUnder, leaf_text}
use Rattle.art_arena.specs.Trees.{Tree, Leaf, Inner, Branches, NoBranch, Branch, branch_leaves, branch_roots, leaves, root_of, texts, IsSound, AreSound, SameButPointers, SameBranches}
use Rattle.art_arena.proofs.PlaceLemmas.{all-beside}
use Rattle.art_arena.proofs.StandingLaws.{shown-prefix}
use Rattle.art_arena.proofs.TreeLemmas.{IsLongestCommonPrefix-node}

module _ {K V : Type 0} {P : ℕ} (text : K → List ℕ) (arena : NodeArena K V P) where
  -- something is held at the root of a tree that stands
  pub tree-held : (tree : Tree (OpaqueNodePtr K V P)) (pointer : OpaqueNodePtr K V P) → root_of tree ≡ pointer → StandsIn text arena tree → held arena pointer ≢ Nothing
  tree-held (Leaf p x) pointer root (leaf, holds, has) free = let one : HeldLeaf leaf ≡ Nothing = sym holds ∙ ap (held arena) root ∙ free in absurd (cc)
  tree-held (Inner p prefix branches) pointer root (node, holds, shows, stand) free = let one : HeldInner node ≡ Nothing = sym holds ∙ ap (held arena) root ∙ free in absurd (cc)

  -- the tree of the branch under a byte, its leaves together among those of all branches
  record BranchAt (path : List ℕ) (branches : Branches (OpaqueNodePtr K V P)) (byte : ℕ) (child : OpaqueNodePtr K V P) : Type 0 where
    pub tree : Tree (OpaqueNodePtr K V P)
    pub at_root : root_of tree ≡ child
    pub stands : StandsIn text arena tree
    pub sound : IsSound (path ++ byte ∷ []) tree
    pub left : List (OpaqueNodePtr K V P × List ℕ)
    pub right : List (OpaqueNodePtr K V P × List ℕ)
    pub together : branch_leaves branches ≡ left ++ (leaves tree ++ right)

  branch-at : (path : List ℕ) (branches : Branches (OpaqueNodePtr K V P)) (byte : ℕ) (child : OpaqueNodePtr K V P) → AllStandIn text arena branches → AreSound path branches → child_at (branch_roots branches) byte ≡ Some child → BranchAt path branches byte child
  branch-at path NoBranch byte child stand sound is = absurd (cc)
  branch-at path (Branch b tree others) byte child (stands, stand) sound is = elim (eqb_tells b byte) [
    | inl same ↦
        let here : Some (root_of tree) ≡ Some child = rw same.0 at is in
        record { tree = tree; at_root = same_Some (root_of tree) child here; stands = stands; sound = subst (λ c. IsSound (path ++ c ∷ []) tree) same.1 sound.0; left = []; right = branch_leaves others; together = refl }
    | inr differ ↦
        let later : child_at (branch_roots others) byte ≡ Some child = rw differ.0 at is in
        let found = branch-at path others byte child stand sound.1 later in
        record { tree = found.tree; at_root = found.at_root; stands = found.stands; sound = found.sound; left = leaves tree ++ found.left; right = found.right; together = ap (λ z. leaves tree ++ z) found.together ∙ sym (append_assoc (leaves tree) found.left (leaves found.tree ++ found.right)) }
  ]

  module _ (pointer : OpaqueNodePtr K V P) (node : nodes.Inner (OpaqueNodePtr K V P)) (is : held arena pointer ≡ HeldInner node) where
    -- the node of a tree that stands has that tree, under the same path
    pub node-under : (at : TreeAt text arena pointer) → (under : TreeUnder text arena node (length at.path)) × (under.tree ≡ at.tree) × (under.path ≡ at.path)
    node-under at = by_tree at.tree at.at_root at.stands at.sound
      where
        by_tree : (tree : Tree (OpaqueNodePtr K V P)) → root_of tree ≡ pointer → StandsIn text arena tree → IsSound at.path tree → (under : TreeUnder text arena node (length at.path)) × (under.tree ≡ tree) × (under.path ≡ at.path)
        by_tree (Leaf p x) root (leaf, holds, has) sound = let one : HeldLeaf leaf ≡ HeldInner node = sym holds ∙ ap (held arena) root ∙ is in absurd (cc)
        by_tree (Inner p prefix branches) root (own, holds, shows, stand) sound =
            let one : HeldInner own ≡ HeldInner node = sym holds ∙ ap (held arena) root ∙ is in
            let same : own ≡ node = cc in
            (record { tree = Inner p prefix branches; path = at.path; stands = (subst (λ n. NodeStands P n prefix branches) same shows, stand); sound = sound; deep = refl }, refl, refl)

    -- and its child under a byte has the tree below it, under the path, the prefix and the byte, whose leaves stand together among the node's
    pub child-at-tree : (byte : ℕ) (child : OpaqueNodePtr K V P) (at : TreeAt text arena pointer) → child_at node.children byte ≡ Some child → (below : TreeAt text arena child) × ((prefix : List ℕ) × HasPrefix node prefix × (below.path ≡ (at.path ++ prefix) ++ byte ∷ [])) × ((left : List _) × (right : List _) × (leaves at.tree ≡ left ++ (leaves below.tree ++ right)))
    child-at-tree byte child at has_child = by_tree at.tree at.at_root at.stands at.sound
      where
        by_tree : (tree : Tree (OpaqueNodePtr K V P)) → root_of tree ≡ pointer → StandsIn text arena tree → IsSound at.path tree → (below : TreeAt text arena child) × ((prefix : List ℕ) × HasPrefix node prefix × (below.path ≡ (at.path ++ prefix) ++ byte ∷ [])) × ((left : List _) × (right : List _) × (leaves tree ≡ left ++ (leaves below.tree ++ right)))
        by_tree (Leaf p x) root (leaf, holds, has) sound = let one : HeldLeaf leaf ≡ HeldInner node = sym holds ∙ ap (held arena) root ∙ is in absurd (cc)
        by_tree (Inner p prefix branches) root (own, holds, shows, stand) sound =
            let one : HeldInner own ≡ HeldInner node = sym holds ∙ ap (held arena) root ∙ is in
            let same : own ≡ node = cc in
            let roots : node.children ≡ branch_roots branches = sym (ap (λ n. n.children) same) ∙ shows.children in
            let branch = branch-at (at.path ++ prefix) branches byte child stand sound.2 (subst (λ children. child_at children byte ≡ Some child) roots has_child) in (
              record { tree = branch.tree; path = (at.path ++ prefix) ++ byte ∷ []; at_root = branch.at_root; stands = branch.stands; sound = branch.sound },
              (prefix, subst (λ n. HasPrefix n prefix) same (shown-prefix P own prefix branches shows), refl),
              (branch.left, branch.right, branch.together),
            )

  -- what the texts below a node share from its depth on
  pub shared-under : (node : nodes.Inner (OpaqueNodePtr K V P)) (depth : ℕ) (under : TreeUnder text arena node depth) → (shared : List ℕ) × IsSharedFrom depth (texts under.tree) shared
  shared-under node depth under = by_tree under.tree under.stands under.sound
    where
      by_tree : (tree : Tree (OpaqueNodePtr K V P)) → StandsUnder P (leaf_text text) (held arena) node tree → IsSound under.path tree → (shared : List ℕ) × IsSharedFrom depth (texts tree) shared
      by_tree (Leaf p x) stands sound = absurd stands
      by_tree (Inner p prefix branches) stands sound = (prefix, (under.path ++ prefix, IsLongestCommonPrefix-node under.path p prefix branches sound, sym (drop_at under.path prefix depth under.deep)))

mutual
  -- a tree is the same as itself
  same-tree : {H : Type 0} (tree : Tree H) → SameButPointers tree tree
  same-tree (Leaf pointer text) = refl
  same-tree (Inner pointer prefix branches) = (refl, same-branches branches)

  same-branches : {H : Type 0} (branches : Branches H) → SameBranches branches branches
  same-branches NoBranch = tt
  same-branches (Branch byte tree others) = (refl, same-tree tree, same-branches others)

-- a node that has a tree as a value has it under its pointer once it is allocated
pub allocated-under : {K V : Type 0} {P : ℕ} (text : K → List ℕ) (old new : NodeArena K V P) (pointer : OpaqueNodePtr K V P) (node : nodes.Inner (OpaqueNodePtr K V P)) (depth : ℕ) (under : TreeUnder text old node depth) → held old pointer ≡ Nothing → Changes old new pointer (HeldInner node)
    → (at : TreeAt text new pointer) × (at.path ≡ under.path) × SameButPointers at.tree under.tree
allocated-under {K = K} {V = V} {P = P} text old new pointer node depth under was_free changes = by_tree under.tree under.stands under.sound
  where
    by_tree : (tree : Tree (OpaqueNodePtr K V P)) → StandsUnder P (leaf_text text) (held old) node tree → IsSound under.path tree → (at : TreeAt text new pointer) × (at.path ≡ under.path) × SameButPointers at.tree tree
    by_tree (Leaf p x) stands sound = absurd stands
    by_tree (Inner p prefix branches) (shows, stand) sound = (
      record { tree = Inner pointer prefix branches; path = under.path; at_root = refl; stands = (node, changes.changed, shows, all-beside P (leaf_text text) (held old) (held new) pointer was_free changes.others branches stand); sound = sound },
      refl,
      (refl, same-branches branches),
    )

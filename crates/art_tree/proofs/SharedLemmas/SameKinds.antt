-- Trees with the smallest kinds that are the same but for their pointers are of the same kinds.
use Rattle.art_tree.proofs.Names.{◌≡◌, ◌∙◌, ℕ, List, ◌∷◌, ◌++◌, length, map, refl, sym, ap, arith, map-append, kind_for, NodeType, node_kind, opaque_key, OpaqueNodePtr, NodeArena, StandsIn, AllStandIn, Tree, Leaf, Inner, Branches, NoBranch, Branch, branch_roots, places, branch_places, SameButPointers, SameBranches, HasSmallestKinds, HaveSmallestKinds, leaf_kind}

module _ {K V : Type 0} {P : ℕ} (text : K → List ℕ) (a b : NodeArena K V P) where
  same-count : (branches more : Branches (OpaqueNodePtr K V P)) → SameBranches branches more → length (branch_roots branches) ≡ length (branch_roots more)
  same-count NoBranch NoBranch same = refl
  same-count NoBranch (Branch byte tree more) same = absurd same
  same-count (Branch byte tree others) NoBranch same = absurd same
  same-count (Branch byte tree others) (Branch c t more) same = let rest = same-count others more same.2 in omega (arith, rest)

  one-more : {x y : NodeType} {xs ys : List NodeType} → x ≡ y → xs ≡ ys → x ∷ xs ≡ y ∷ ys
  one-more first rest = λ i. first i ∷ rest i

  mutual
    pub same-kinds : (tree other : Tree (OpaqueNodePtr K V P)) → StandsIn text a tree → StandsIn text b other → HasSmallestKinds tree → HasSmallestKinds other → SameButPointers tree other → map node_kind (places tree) ≡ map node_kind (places other)
    same-kinds (Leaf pointer x) (Leaf at y) (leaf, holds, has) (other, other_holds, other_has) smallest_kinds other_smallest_kinds same =
        one-more (leaf_kind a (node_kind pointer) (opaque_key pointer) leaf holds ∙ sym (leaf_kind b (node_kind at) (opaque_key at) other other_holds)) refl
    same-kinds (Leaf pointer x) (Inner at prefix more) stands other_stands smallest_kinds other_smallest_kinds same = absurd same
    same-kinds (Inner pointer prefix branches) (Leaf at y) stands other_stands smallest_kinds other_smallest_kinds same = absurd same
    same-kinds (Inner pointer prefix branches) (Inner at p more) stands other_stands smallest_kinds other_smallest_kinds same =
        one-more (smallest_kinds.0 ∙ ap kind_for (same-count branches more same.1) ∙ sym other_smallest_kinds.0) (same-branch-kinds branches more stands.3 other_stands.3 smallest_kinds.1 other_smallest_kinds.1 same.1)

    same-branch-kinds : (branches more : Branches (OpaqueNodePtr K V P)) → AllStandIn text a branches → AllStandIn text b more → HaveSmallestKinds branches → HaveSmallestKinds more → SameBranches branches more → map node_kind (branch_places branches) ≡ map node_kind (branch_places more)
    same-branch-kinds NoBranch NoBranch stand other_stand smallest_kinds other_smallest_kinds same = refl
    same-branch-kinds NoBranch (Branch byte tree more) stand other_stand smallest_kinds other_smallest_kinds same = absurd same
    same-branch-kinds (Branch byte tree others) NoBranch stand other_stand smallest_kinds other_smallest_kinds same = absurd same
    same-branch-kinds (Branch byte tree others) (Branch c t more) stand other_stand smallest_kinds other_smallest_kinds same =
        let first = same-kinds tree t stand.0 other_stand.0 smallest_kinds.0 other_smallest_kinds.0 same.1 in
        let rest = same-branch-kinds others more stand.1 other_stand.1 smallest_kinds.1 other_smallest_kinds.1 same.2 in
        map-append node_kind (places tree) (branch_places others) ∙ ap (λ kinds. kinds ++ map node_kind (branch_places others)) first ∙ ap (λ kinds. map node_kind (places t) ++ kinds) rest ∙ sym (map-append node_kind (places t) (branch_places more))

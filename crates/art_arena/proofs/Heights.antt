-- How high the trees in an arena are, which loops that go down count down. For the proofs of crates above too.
use Rattle.std.proofs.Common.{◌≡◌, ◌∙◌, ℕ, zero, suc, ◌+◌, ◌<◌, ◌≤◌, ◌^◌, max, List, [], ◌∷◌, ◌++◌, length, length-append, map, refl, ap, arith}
use Rattle.std.specs.Option.{option_map_or}
use Rattle.art_nodes.specs.Inner as nodes
use Rattle.art_nodes.specs.declared.pointers.OpaqueNodePtr.{OpaqueNodePtr}
use Rattle.art_nodes.specs.declared.leaf_node.LeafNode.{LeafNode}
use Rattle.art_arena.specs.Arena.{NodeArena, HeldInner, HeldLeaf, as_inner, held}
use Rattle.art_arena.specs.Standing.{AllStandIn, StandsIn}
use Rattle.art_arena.specs.Trees.{Tree, Leaf, Inner, Branches, NoBranch, Branch, branch_roots, root_of, AreSound, IsSound}

-- the greatest of these numbers, and 0 where there is none
abbrev pub greatest : List ℕ → ℕ
greatest [] = 0
greatest (n ∷ ns) = max n (greatest ns)

module _ {H : Type 0} where
  abbrev mutual
    -- how many inner nodes are above the deepest leaf
    pub tree_height : Tree H → ℕ
    tree_height (Leaf pointer text) = 0
    tree_height (Inner pointer prefix branches) = suc (branches_height branches)

    pub branches_height : Branches H → ℕ
    branches_height NoBranch = 0
    branches_height (Branch byte tree others) = max (tree_height tree) (branches_height others)

  mutual
    -- so many, and the bytes of the path, are fewer than 2 ^ 64
    pub height-fits : (path : List ℕ) (tree : Tree H) → IsSound path tree → length path + tree_height tree < 2 ^ 64
    height-fits path (Leaf pointer text) sound = omega (arith, sound.1, ap length sound.0.1, length-append path sound.0.0)
    height-fits path (Inner pointer prefix branches) sound = omega (arith, branches-fit (path ++ prefix) branches (omega (arith, sound.0)) sound.2, length-append path prefix)

    branches-fit : (path : List ℕ) (branches : Branches H) → 0 < length (branch_roots branches) → AreSound path branches → length path + suc (branches_height branches) < 2 ^ 64
    branches-fit path NoBranch some sound = absurd (omega (arith, some))
    branches-fit path (Branch byte tree NoBranch) some sound = omega (arith, height-fits (path ++ byte ∷ []) tree sound.0, length-append path (byte ∷ []))
    branches-fit path (Branch byte tree (Branch b other more)) some sound = omega (arith, height-fits (path ++ byte ∷ []) tree sound.0, length-append path (byte ∷ []), branches-fit path (Branch b other more) (omega arith) sound.1)

-- the height of what stands at a pointer, as far as so many nodes down
pub height : {K V : Type 0} {P : ℕ} → NodeArena K V P → ℕ → OpaqueNodePtr K V P → ℕ
height arena zero pointer = 0
height arena (suc most) pointer = option_map_or (λ node. suc (greatest (map (λ pair. height arena most pair.1) node.children))) (as_inner (held arena pointer)) 0

module _ {K V : Type 0} {P : ℕ} (arena : NodeArena K V P) where
  height-zero : (pointer : OpaqueNodePtr K V P) → height arena zero pointer ≡ 0
  unfolding height
  height-zero pointer = refl

  height-leaf : (most : ℕ) (pointer : OpaqueNodePtr K V P) (leaf : LeafNode K V P) → held arena pointer ≡ HeldLeaf leaf → height arena (suc most) pointer ≡ 0
  unfolding height
  height-leaf most pointer leaf holds = ap (λ h. option_map_or (λ node. suc (greatest (map (λ pair. height arena most pair.1) node.children))) (as_inner h) 0) holds

  height-inner : (most : ℕ) (pointer : OpaqueNodePtr K V P) (node : nodes.Inner (OpaqueNodePtr K V P)) → held arena pointer ≡ HeldInner node → height arena (suc most) pointer ≡ suc (greatest (map (λ pair. height arena most pair.1) node.children))
  unfolding height
  height-inner most pointer node holds = ap (λ h. option_map_or (λ node. suc (greatest (map (λ pair. height arena most pair.1) node.children))) (as_inner h) 0) holds

module _ {K V : Type 0} {P : ℕ} (text : K → List ℕ) (arena : NodeArena K V P) where
  mutual
    -- it is that of the tree which stands there
    height-is : (most : ℕ) (tree : Tree (OpaqueNodePtr K V P)) → StandsIn text arena tree → tree_height tree ≤ most → height arena most (root_of tree) ≡ tree_height tree
    height-is zero (Leaf pointer x) stands fits = height-zero arena pointer
    height-is zero (Inner pointer prefix branches) stands fits = absurd (omega (arith, fits))
    height-is (suc most) (Leaf pointer x) (leaf, holds, has) fits = height-leaf arena most pointer leaf holds
    height-is (suc most) (Inner pointer prefix branches) (node, holds, shows, stand) fits =
        height-inner arena most pointer node holds ∙ ap (λ children. suc (greatest (map (λ pair. height arena most pair.1) children))) shows.children ∙ ap suc (heights-are most branches stand (omega (arith, fits)))

    heights-are : (most : ℕ) (branches : Branches (OpaqueNodePtr K V P)) → AllStandIn text arena branches → branches_height branches ≤ most → greatest (map (λ pair. height arena most pair.1) (branch_roots branches)) ≡ branches_height branches
    heights-are most NoBranch stand fits = refl
    heights-are most (Branch byte tree others) (stands, stand) fits =
        ap (λ n. max n (greatest (map (λ pair. height arena most pair.1) (branch_roots others)))) (height-is most tree stands (omega (arith, fits)))
        ∙ ap (max (tree_height tree)) (heights-are most others stand (omega (arith, fits)))

  -- so it is less at a child
  pub lower-child : (path below : List ℕ) (tree child : Tree (OpaqueNodePtr K V P)) (at next : OpaqueNodePtr K V P) → root_of tree ≡ at → root_of child ≡ next → StandsIn text arena tree → StandsIn text arena child → IsSound path tree → IsSound below child → tree_height child < tree_height tree
      → height arena (2 ^ 64) next < height arena (2 ^ 64) at
  lower-child path below tree child at next at_root at_child stands child_stands sound child_sound less =
      let whole = ap (height arena (2 ^ 64)) at_root in
      let part = ap (height arena (2 ^ 64)) at_child in
      let here = height-is (2 ^ 64) tree stands (omega (arith, height-fits path tree sound)) in
      let there = height-is (2 ^ 64) child child_stands (omega (arith, height-fits below child child_sound)) in
      omega (arith, less, whole, part, here, there)

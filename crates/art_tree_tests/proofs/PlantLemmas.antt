-- Trees that tests build by hand.
use Rattle.std.proofs.Common.{◌≡◌, ◌∙◌, ℕ, ◌<◌, ◌^◌, List, [], ◌∷◌, ◌++◌, length, take, Result, Ok, Err, IfOk, refl, sym, ap, subst, arith}
use Rattle.std.proofs.lemmas.Bool.Decides.{nat_tests}
use Rattle.art_bytes.specs.Text.{IsPrefixOf}
use Rattle.art_header.specs.Header.{capped, empty_header}
use Rattle.art_nodes.specs.ChildMap.{with_child}
use Rattle.art_nodes.specs.Inner as nodes
use Rattle.art_nodes.specs.declared.pointers.OpaqueNodePtr.{OpaqueNodePtr}
use Rattle.art_nodes.specs.declared.leaf_node.LeafNode.{LeafNode}
use Rattle.art_arena.specs.Arena.{NodeArena, HeldLeaf, Changes}
use Rattle.art_arena.specs.Standing.{StandsIn, TreeAt, TreeUnder, leaf_text}
use Rattle.art_arena.specs.Trees.{Tree, Leaf, Inner, Branches, NoBranch, Branch, branch_roots, root_of, IsSound}

-- what two facts of a value give
pub each-value : {T E : Type 0} {P Q R : T → Type 0} (r : Result T E) → IfOk r P → IfOk r Q → ((x : T) → P x → Q x → R x) → IfOk r R
each-value (Ok x) p q gives = gives x p q
each-value (Err e) p q gives = tt

-- two children written one after the other
pub two_children : {H : Type 0} (low high : ℕ) (first second : H) → low < high → with_child (with_child [] low first) high second ≡ (low, first) ∷ (high, second) ∷ []
two_children low high first second ascend = grind (arith, nat_tests)

module _ {K V : Type 0} {P : ℕ} (text : K → List ℕ) (old new : NodeArena K V P) (pointer : OpaqueNodePtr K V P) where
  -- a leaf that is put into an arena is a tree
  pub leaf_planted : (leaf : LeafNode K V P) (path : List ℕ) → Changes old new pointer (HeldLeaf leaf) → IsPrefixOf path (leaf_text text leaf) → length (leaf_text text leaf) < 2 ^ 64 → (found : TreeAt text new pointer) × (found.path ≡ path)
  leaf_planted leaf path changes begins short =
      (record { tree = Leaf pointer (leaf_text text leaf); path = path; at_root = refl; stands = (leaf, changes.changed, refl); sound = (begins, short) }, refl)

-- each tree that stood still stands
pub others_planted : {K V : Type 0} {P : ℕ} (text : K → List ℕ) (old new : NodeArena K V P) → ((tree : Tree (OpaqueNodePtr K V P)) → StandsIn text old tree → StandsIn text new tree) → (other : OpaqueNodePtr K V P) (found : TreeAt text old other) → (again : TreeAt text new other) × (again.path ≡ found.path)
others_planted text old new stands_on other found =
    (record { tree = found.tree; path = found.path; at_root = found.at_root; stands = stands_on found.tree found.stands; sound = found.sound }, refl)

-- a node with this prefix and these two children
abbrev pub pair_node : {H : Type 0} → ℕ → List ℕ → ℕ × H → ℕ × H → nodes.Inner H
pair_node room prefix low high = record { prefix_len = length prefix; stored = take (capped room (length prefix)) prefix; children = low ∷ high ∷ [] }

-- it is what a builder gives
pub built_pair : {H : Type 0} (room : ℕ) (prefix : List ℕ) (low high : ℕ × H) (a b c d : nodes.Inner H) → low.0 < high.0 → a ≡ nodes.empty_inner (empty_header room prefix (length prefix)) → b ≡ nodes.with_children a (with_child a.children low.0 low.1) → c ≡ nodes.with_children b (with_child b.children high.0 high.1) → d ≡ c → d ≡ pair_node room prefix low high
built_pair room prefix low high a b c d ascend a_is b_is c_is d_is =
    d_is ∙ c_is ∙ ap (λ n. nodes.with_children n (with_child n.children high.0 high.1)) (b_is ∙ ap (λ n. nodes.with_children n (with_child n.children low.0 low.1)) a_is)
    ∙ ap (λ children. record { prefix_len = length prefix; stored = take (capped room (length prefix)) prefix; children = children }) (two_children low.0 high.0 low.1 high.1 ascend)

-- two trees under what follows a path and a prefix make the tree of a node
pub forked : {K V : Type 0} {P : ℕ} (text : K → List ℕ) (arena : NodeArena K V P) (path prefix : List ℕ) (low high : ℕ × OpaqueNodePtr K V P) → low.0 < high.0 → high.0 < 256
    → (a : TreeAt text arena low.1) → a.path ≡ (path ++ prefix) ++ low.0 ∷ [] → (b : TreeAt text arena high.1) → b.path ≡ (path ++ prefix) ++ high.0 ∷ [] → (depth : ℕ) → depth ≡ length path → (under : TreeUnder text arena (pair_node P prefix low high) depth) × (under.path ≡ path)
forked {P = P} text arena path prefix low high ascend byte a a_path b b_path depth deep =
    let branches : Branches (OpaqueNodePtr _ _ P) = Branch low.0 a.tree (Branch high.0 b.tree NoBranch) in
    let roots : low ∷ high ∷ [] ≡ branch_roots branches = ap (λ r. (low.0, r) ∷ high ∷ []) (sym a.at_root) ∙ ap (λ r. (low.0, root_of a.tree) ∷ (high.0, r) ∷ []) (sym b.at_root) in (
      record {
        tree = Inner low.1 prefix branches;
        path = path;
        stands = (record { prefix_len = refl; stored = refl; children = roots }, (a.stands, (b.stands, tt)));
        sound = (omega arith, (omega arith, omega (arith, ascend, byte), (omega (arith, ascend), byte, tt)), (subst (λ p. IsSound p a.tree) a_path a.sound, (subst (λ p. IsSound p b.tree) b_path b.sound, tt)));
        deep = sym deep;
      },
      refl,
    )

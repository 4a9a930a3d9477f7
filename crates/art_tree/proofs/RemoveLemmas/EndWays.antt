-- Removal: the way to the leaf at an end of a tree.
use Rattle.art_tree.proofs.Names.{LeafKind, ◌≡◌, ◌∙◌, ℕ, ◌<◌, ◌≤◌, ◌^◌, List, [], ◌∷◌, ◌++◌, length, Some, refl, sym, ap, subst, arith, node_kind, OpaqueNodePtr, NodeArena, HeldInner, HeldLeaf, held, IsAtEnd, end_pair, IsTreeIn, StandsIn, TreeAt, Tree, Leaf, Inner, Branches, NoBranch, Branch, leaves, root_of, IsSound, IsWellFormed, End, First, Last, branches_height, height, lower-child, tree_height, one-inner, Context, Whole, Under, join, path_to, plug, IsAtPath, steps_to, HasVisited, Steps, path_of, TreePath, InnerNode}
use Rattle.art_steps.proofs.SharedLemmas.EndBranches.{after_end, before_end, end-branch, end-leaves, end-pair, end-sound, end-stands}
use Rattle.art_steps.proofs.SharedLemmas.ExchangedSubtree.{sound-part, stands-part}
use Rattle.art_steps.proofs.SharedLemmas.ParentLemmas.{inner-kind}

module _ {H : Type 0} where
  -- a branch is no higher than all of them
  among-high : (before : Branches H) (byte : ℕ) (tree : Tree H) (after : Branches H) → tree_height tree ≤ branches_height (join before (Branch byte tree after))
  among-high NoBranch byte tree after = omega arith
  among-high (Branch b other more) byte tree after = omega (arith, among-high more byte tree after)

-- an inner node at which a tree stands has children
pub some-child : {K V : Type 0} {P : ℕ} (text : K → List ℕ) (arena : NodeArena K V P) (at : OpaqueNodePtr K V P) → TreeAt text arena at → (node : InnerNode (OpaqueNodePtr K V P)) → held arena at ≡ HeldInner node → 0 < length node.children
some-child {K = K} {V = V} {P = P} text arena at found node holds = by_tree found.tree found.at_root found.stands found.sound
  where
    by_tree : (tree : Tree (OpaqueNodePtr K V P)) → root_of tree ≡ at → StandsIn text arena tree → IsSound found.path tree → 0 < length node.children
    by_tree (Leaf p x) top (leaf, own_holds, has) sound = let wrong : HeldLeaf leaf ≡ HeldInner node = sym own_holds ∙ ap (held arena) top ∙ holds in absurd (cc)
    by_tree (Inner p prefix branches) top (own, own_holds, shows, stand) sound =
        let one : own ≡ node = one-inner (held arena at) own node (ap (held arena) (sym top) ∙ own_holds) holds in
        omega (arith, sound.0, ap length (sym (ap (λ n. n.children) (sym one) ∙ shows.children)))

-- the visits lead to a part of the tree, whose leaf at the end is the tree's
pub record IsEndWay {K V : Type 0} {P : ℕ} (end : End) (tree : Tree (OpaqueNodePtr K V P)) (visits : TreePath K V P) (at : OpaqueNodePtr K V P) : Type 0 where
  pub context : Context (OpaqueNodePtr K V P)
  pub part : Tree (OpaqueNodePtr K V P)
  pub whole : plug context part ≡ tree
  pub at_root : root_of part ≡ at
  pub visited : HasVisited visits (steps_to context)
  pub ends : (leaf : OpaqueNodePtr K V P) → IsAtEnd end (leaves part) leaf → IsAtEnd end (leaves tree) leaf

module _ {K V : Type 0} {P : ℕ} (text : K → List ℕ) (arena : NodeArena K V P) (end : End) (root : OpaqueNodePtr K V P) (tree : Tree (OpaqueNodePtr K V P)) (is : IsTreeIn text arena root tree) where
  -- it begins at the root
  pub end-start : (visits : TreePath K V P) → HasVisited visits [] → IsEndWay end tree visits root
  end-start visits none = record { context = Whole; part = tree; whole = refl; at_root = is.at_root; visited = none; ends = λ leaf at_end. at_end }

  module _ (visits : TreePath K V P) (at : OpaqueNodePtr K V P) (on : IsEndWay end tree visits at) where
    pub stands-there : StandsIn text arena on.part
    stands-there = stands-part text arena arena on.context on.part (subst (StandsIn text arena) (sym on.whole) is.stands)

    pub sound-there : IsSound (path_to on.context) on.part
    sound-there = sound-part on.context on.part (subst IsWellFormed (sym on.whole) is.sound)

    abbrev pub tree-there : TreeAt text arena at
    tree-there = record { tree = on.part; path = path_to on.context; at_root = on.at_root; stands = stands-there; sound = sound-there }

    -- it goes on at the child at the end, which is lower
    pub end-step : (node : InnerNode (OpaqueNodePtr K V P)) (byte : ℕ) (child : OpaqueNodePtr K V P) → held arena at ≡ HeldInner node → end_pair end node.children ≡ Some (byte, child)
        → (next : TreePath K V P) → ((steps : Steps K V P) → HasVisited visits steps → HasVisited next (steps ++ (at, byte) ∷ [])) → IsEndWay end tree next child × (height arena (2 ^ 64) child < height arena (2 ^ 64) at)
    end-step node byte child holds pair next visit = by_part on.part on.whole on.at_root stands-there sound-there on.ends
      where
        by_part : (part : Tree (OpaqueNodePtr K V P)) → plug on.context part ≡ tree → root_of part ≡ at → StandsIn text arena part → IsSound (path_to on.context) part → ((leaf : OpaqueNodePtr K V P) → IsAtEnd end (leaves part) leaf → IsAtEnd end (leaves tree) leaf)
            → IsEndWay end tree next child × (height arena (2 ^ 64) child < height arena (2 ^ 64) at)
        by_part (Leaf p x) whole top (leaf, own_holds, has) sound ends = let wrong : HeldLeaf leaf ≡ HeldInner node = sym own_holds ∙ ap (held arena) top ∙ holds in absurd (cc)
        by_part (Inner p prefix branches) whole top (own, own_holds, shows, stand) sound ends =
            let one : own ≡ node = one-inner (held arena at) own node (ap (held arena) (sym top) ∙ own_holds) holds in
            let (others, first) = end-pair end node.children (byte, child) pair in
            let branch = end-branch end branches byte child others (sym (ap (λ n. n.children) (sym one) ∙ shows.children) ∙ first) in
            let path = path_to on.context ++ prefix in
            let high = subst (λ all. tree_height branch.tree ≤ branches_height all) (sym branch.is) (among-high (before_end end branch.others) byte branch.tree (after_end end branch.others)) in
            let lower : tree_height branch.tree < tree_height (Inner p prefix branches) = omega (arith, high) in (
              record {
                context = Under on.context p prefix (before_end end branch.others) byte (after_end end branch.others);
                part = branch.tree;
                whole = ap (λ all. plug on.context (Inner p prefix all)) (sym branch.is) ∙ whole;
                at_root = branch.at_root;
                visited = subst (λ q. HasVisited next (steps_to on.context ++ (q, byte) ∷ [])) (sym top) (visit (steps_to on.context) on.visited);
                ends = λ leaf at_end. ends leaf (end-leaves end branches byte child branch leaf at_end);
              },
              lower-child text arena (path_to on.context) (path ++ byte ∷ []) (Inner p prefix branches) branch.tree at child top branch.at_root (own, own_holds, shows, stand) (end-stands text arena end branches byte child branch stand) sound
                  (end-sound text arena end branches byte child branch path sound.2) lower,
            )

    -- and ends at a leaf
    pub end-found : node_kind at ≡ LeafKind → (path : TreePath K V P) → ((steps : Steps K V P) → HasVisited visits steps → path ≡ path_of steps) → ((x : List ℕ) × IsAtPath tree at path x) × IsAtEnd end (leaves tree) at
    end-found kind path finish = by_part on.part on.whole on.at_root stands-there on.ends
      where
        itself : (side : End) (p : OpaqueNodePtr K V P) (x : List ℕ) → p ≡ at → IsAtEnd side ((p, x) ∷ []) at
        itself First p x same = (x, [], ap (λ q. (q, x) ∷ []) same)
        itself Last p x same = (x, [], ap (λ q. (q, x) ∷ []) same)

        by_part : (part : Tree (OpaqueNodePtr K V P)) → plug on.context part ≡ tree → root_of part ≡ at → StandsIn text arena part → ((leaf : OpaqueNodePtr K V P) → IsAtEnd end (leaves part) leaf → IsAtEnd end (leaves tree) leaf) → ((x : List ℕ) × IsAtPath tree at path x) × IsAtEnd end (leaves tree) at
        by_part (Leaf p x) whole top stands ends = (
          (x, (steps_to on.context, record { context = on.context; text = x; whole = ap (λ q. plug on.context (Leaf q x)) (sym top) ∙ whole; same = refl }, refl, finish (steps_to on.context) on.visited)),
          ends at (itself end p x top),
        )
        by_part (Inner p prefix branches) whole top (own, own_holds, shows, stand) ends = absurd (inner-kind arena at own (ap (held arena) (sym top) ∙ own_holds) kind)

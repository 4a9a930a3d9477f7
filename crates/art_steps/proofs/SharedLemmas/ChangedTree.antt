-- Insertion and removal: the tree and its arena after a change.
use Rattle.art_steps.proofs.Names.{eq-eqb, ne_eqb, ◌≡◌, ◌≢◌, ◌⊎◌, ◌∙◌, ℕ, suc, List, [], ◌∷◌, ◌++◌, Contains, Some, refl, sym, ap, subst, inl, inr, arith, Contains-append_cases, ChildMap, IsAscending, IsAscendingFrom, child_at, key_bytes, OpaqueNodePtr, LeafNode, NodeArena, Held, HeldInner, HeldLeaf, Nothing, held, AreDistinct, StandsIn, AllStandIn, Tree, Leaf, Inner, Branches, NoBranch, Branch, places, branch_places, branch_roots, root_of, IsWellFormed, Context, Whole, Under, plug, parent, Adopts, KeepsAt, join, StaysAt, HasChildUnder, IsChildOrRoot, above, the_one, InnerNode}
use Rattle.art_steps.proofs.SharedLemmas.BranchLemmas.{roots-join}
use Rattle.art_steps.proofs.SharedLemmas.ExchangedSubtree.{around, before-byte, sound-part, stands-part}
use Rattle.art_steps.proofs.SharedLemmas.ExchangedTree.{root-under}

module _ {K V : Type 0} {P : ℕ} (text : K → List ℕ) (arena : NodeArena K V P) where
  mutual
    -- the places of a tree that stands hold nodes
    pub place-held : (tree : Tree (OpaqueNodePtr K V P)) → StandsIn text arena tree → (q : OpaqueNodePtr K V P) → Contains (places tree) q → held arena q ≢ Nothing
    place-held (Leaf pointer x) (leaf, holds, has) q inside = λ none. let wrong : HeldLeaf leaf ≡ Nothing = sym holds ∙ ap (held arena) (the_one pointer q inside) ∙ none in absurd (cc)
    place-held (Inner pointer prefix branches) (node, holds, shows, stand) q inside = elim (Contains-append_cases (pointer ∷ []) (branch_places branches) q inside) [
      | inl here ↦ λ none. let wrong : HeldInner node ≡ Nothing = sym holds ∙ ap (held arena) (the_one pointer q here) ∙ none in absurd (cc)
      | inr below ↦ branch-place-held branches stand q below
    ]

    pub branch-place-held : (branches : Branches (OpaqueNodePtr K V P)) → AllStandIn text arena branches → (q : OpaqueNodePtr K V P) → Contains (branch_places branches) q → held arena q ≢ Nothing
    branch-place-held NoBranch stand q (k, inside, is) = absurd (omega (arith, inside))
    branch-place-held (Branch byte tree others) (stands, stand) q inside = elim (Contains-append_cases (places tree) (branch_places others) q inside) [
      | inl here ↦ place-held tree stands q here
      | inr later ↦ branch-place-held others stand q later
    ]

-- the root of a tree is one of its places
pub root-place : {H : Type 0} (tree : Tree H) → Contains (places tree) (root_of tree)
root-place (Leaf pointer x) = (0, omega arith, refl)
root-place (Inner pointer prefix branches) = (0, omega arith, refl)

module _ {K V : Type 0} {P : ℕ} where
  -- the parent of a place is an inner node outside of the subtree there
  pub record IsAbove (text : K → List ℕ) (arena : NodeArena K V P) (part : Tree (OpaqueNodePtr K V P)) (pointer : OpaqueNodePtr K V P) : Type 0 where
    pub node : InnerNode (OpaqueNodePtr K V P)
    pub is : held arena pointer ≡ HeldInner node
    pub outside : Contains (places part) pointer → ⊥

  pub parent-above : (text : K → List ℕ) (arena : NodeArena K V P) (context : Context (OpaqueNodePtr K V P)) (part : Tree (OpaqueNodePtr K V P)) → StandsIn text arena (plug context part) → AreDistinct (places (plug context part)) → (pointer : OpaqueNodePtr K V P) → parent context ≡ Some pointer → IsAbove text arena part pointer
  parent-above text arena Whole part stands distinct pointer is = absurd (cc)
  parent-above text arena (Under higher p prefix before byte after) part stands distinct pointer is =
      let (node, holds, shows, stand) = stands-part text arena arena higher (Inner p prefix (join before (Branch byte part after))) stands in
      let same : p ≡ pointer = cc in
      record {
        node = node;
        is = ap (held arena) (sym same) ∙ holds;
        outside = λ inside. (around (Under higher p prefix before byte after) part p distinct (0, omega arith, refl)).outside (subst (Contains (places part)) (sym same) inside);
      }

  -- no leaf is the parent of a place
  pub leaf-no-parent : (text : K → List ℕ) (arena : NodeArena K V P) (context : Context (OpaqueNodePtr K V P)) (part : Tree (OpaqueNodePtr K V P)) → StandsIn text arena (plug context part) → AreDistinct (places (plug context part)) → (p : OpaqueNodePtr K V P) (l : LeafNode K V P) → held arena p ≡ HeldLeaf l → parent context ≢ Some p
  leaf-no-parent text arena context part stands distinct p l is above_it =
      let at = parent-above text arena context part stands distinct p above_it in
      let wrong : HeldLeaf l ≡ HeldInner at.node = sym is ∙ at.is in absurd (cc)

  -- what putting a node in the place of a subtree leaves
  pub record IsPutAt (old new last : NodeArena K V P) (context : Context (OpaqueNodePtr K V P)) (top root : OpaqueNodePtr K V P) (part : Tree (OpaqueNodePtr K V P)) : Type 0 where
    pub adopted : Adopts old last context top
    pub others : (p : OpaqueNodePtr K V P) → parent context ≢ Some p → held last p ≡ held new p
    pub at_root : (now : Tree (OpaqueNodePtr K V P)) → root_of now ≡ top → root_of (plug context now) ≡ root

  pub is-put-at : (text : K → List ℕ) (old new last : NodeArena K V P) (context : Context (OpaqueNodePtr K V P)) (part : Tree (OpaqueNodePtr K V P)) (top root root_now : OpaqueNodePtr K V P) → StandsIn text old (plug context part) → root_of (plug context part) ≡ root
      → ((p : OpaqueNodePtr K V P) → parent context ≡ Some p → held new p ≡ held old p) → IsChildOrRoot new last (above context) top root root_now → IsPutAt old new last context top root_now part
  is-put-at text old new last Whole part top root root_now stands at_root kept (same, is) = record { adopted = tt; others = λ p differ. same p; at_root = λ now top_is. top_is ∙ sym is }
  is-put-at text old new last (Under higher p prefix before byte after) part top root root_now stands at_root kept (is, written) =
      let (node, holds, shows, stand) = stands-part text old old higher (Inner p prefix (join before (Branch byte part after))) stands in
      record {
        adopted = λ own own_is. (written own (kept p refl ∙ own_is)).changed;
        others = λ q differ. (written node (kept p refl ∙ holds)).others q (λ same. differ (ap Some (sym same)));
        at_root = λ now top_is. root-under higher p prefix before byte after part now ∙ at_root ∙ sym is;
      }

-- a list that ascends has its child under the byte
there-at : {H : Type 0} (low : ℕ) (xs : ChildMap H) (byte : ℕ) (child : H) (ys : ChildMap H) → IsAscendingFrom low (key_bytes (xs ++ (byte, child) ∷ ys)) → child_at (xs ++ (byte, child) ∷ ys) byte ≡ Some child
there-at low [] byte child ys above = rw (eq-eqb byte byte refl) refl
there-at low (x ∷ xs) byte child ys above =
    let later = before-byte (suc x.0) xs byte child ys above.2 in
    rw (ne_eqb x.0 byte (λ same. omega (arith, later, same))) (there-at (suc x.0) xs byte child ys above.2)

-- a node is where it was in an arena that keeps the parent
pub has-child_under-at : {K V : Type 0} {P : ℕ} (text : K → List ℕ) (old new : NodeArena K V P) (context : Context (OpaqueNodePtr K V P)) (part : Tree (OpaqueNodePtr K V P)) → StandsIn text old (plug context part) → IsWellFormed (plug context part)
    → ((p : OpaqueNodePtr K V P) → parent context ≡ Some p → held new p ≡ held old p) → HasChildUnder new (above context) (root_of part)
has-child_under-at text old new Whole part stands sound kept = tt
has-child_under-at text old new (Under higher p prefix before byte after) part stands sound kept =
    let (node, holds, shows, stand) = stands-part text old old higher (Inner p prefix (join before (Branch byte part after))) stands in
    let (two, ascend, below) = sound-part higher (Inner p prefix (join before (Branch byte part after))) sound in
    let children = shows.children ∙ roots-join before (Branch byte part after) in
    let ascending = subst (λ children. IsAscending (key_bytes children)) (roots-join before (Branch byte part after)) ascend in
    (node, kept p refl ∙ holds, subst (λ children. child_at children byte ≡ Some (root_of part)) (sym children) (there-at 0 (branch_roots before) byte (root_of part) (branch_roots after) ascending), subst (λ children. IsAscending (key_bytes children)) (sym children) ascending)

module _ {K V : Type 0} {P : ℕ} where
  -- a place is free, or it holds an inner node or a leaf
  held-case : (h : Held (OpaqueNodePtr K V P) (LeafNode K V P)) → (h ≡ Nothing) ⊎ (((node : InnerNode (OpaqueNodePtr K V P)) × (h ≡ HeldInner node)) ⊎ ((l : LeafNode K V P) × (h ≡ HeldLeaf l)))
  held-case Nothing = inl refl
  held-case (HeldInner node) = inr (inl (node, refl))
  held-case (HeldLeaf l) = inr (inr (l, refl))

  -- what is held stays held
  pub held-on : (old new : NodeArena K V P) (p : OpaqueNodePtr K V P) → StaysAt old new p → held old p ≢ Nothing → held new p ≢ Nothing
  held-on old new p stays was none = elim (held-case (held old p)) [
    | inl free ↦ was free
    | inr (inl (node, is)) ↦ (let wrong : HeldInner node ≡ Nothing = sym (stays.keeps.inner node is) ∙ none in absurd (cc))
    | inr (inr (l, is)) ↦ (let now = stays.keeps.leaf l is in let wrong : HeldLeaf now.0 ≡ Nothing = sym now.1 ∙ none in absurd (cc))
  ]

  -- a leaf that stayed was a leaf
  pub was-leaf : (old new : NodeArena K V P) (p : OpaqueNodePtr K V P) (l : LeafNode K V P) → StaysAt old new p → held new p ≡ HeldLeaf l → (was : LeafNode K V P) × (held old p ≡ HeldLeaf was)
  was-leaf old new p l stays there = elim (held-case (held old p)) [
    | inl free ↦ absurd (let wrong : HeldLeaf l ≡ Nothing = sym there ∙ stays.nothing free in cc)
    | inr (inl (node, is)) ↦ absurd (let wrong : HeldLeaf l ≡ HeldInner node = sym there ∙ stays.keeps.inner node is in cc)
    | inr (inr found) ↦ found
  ]

  -- what stayed is kept to the end where it stays the same from there
  pub keeps-on : (old new last : NodeArena K V P) (p : OpaqueNodePtr K V P) → StaysAt old new p → held last p ≡ held new p → KeepsAt old last p
  keeps-on old new last p stays same = record { inner = λ node is. same ∙ stays.keeps.inner node is; leaf = λ l is. let now = stays.keeps.leaf l is in (now.0, same ∙ now.1, now.2, now.3) }

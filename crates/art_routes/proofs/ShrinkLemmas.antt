-- A removal that is refused: the parent of the leaf, in the arena and in the tree of the keys.
use Rattle.art_routes.proofs.LeafNames.{AllStandIn, Branch, Branches, Contains, Contains-append_cases, HasLeafOf, Held, HeldInner, HeldLeaf, Inner, IsArt, IsFewest, Leaf, List, NeedsNode, NeedsSmallerNode, NoBranch, NodeArena, None, Nothing, OpaqueNodePtr, Option, ShrinksWithout, Some, SomeShrinksWithout, StandsIn, Tree, [], ap, branch_places, branch_roots, entries_of, entry-texts, first_or_later, held, inl, inr, leaf_key, length, none_inside, one-inner, places, subst, sym, texts_of, ℕ, ◌∙◌, ◌≡◌, ◌≢◌}
use Rattle.art_nodes.specs.Inner as nodes

module _ {H L : Type 0} where
  one-leaf : (a b : L) (h : Held H L) → h ≡ HeldLeaf a → h ≡ HeldLeaf b → a ≡ b
  one-leaf a b h first second = let same : HeldLeaf a ≡ HeldLeaf b = sym first ∙ second in cc

  not-both : (node : nodes.Inner H) (leaf : L) (h : Held H L) → h ≡ HeldInner node → h ≡ HeldLeaf leaf → ⊥
  not-both node leaf h first second = let wrong : HeldInner node ≡ HeldLeaf leaf = sym first ∙ second in absurd (cc)

  some-inner : (node : nodes.Inner H) (h : Held H L) → h ≡ HeldInner node → h ≢ Nothing
  some-inner node h is none = let wrong : HeldInner node ≡ Nothing = sym is ∙ none in absurd (cc)

module _ {K V : Type 0} {P : ℕ} (text : K → List ℕ) (arena : NodeArena K V P) (needs : (x : List ℕ) × NeedsSmallerNode text arena x) where
  abbrev x : List ℕ
  x = needs.0

  abbrev parent : OpaqueNodePtr K V P
  parent = needs.1.parent

  -- the leaf is among the branches that the node has as its children
  leaf-of : (branches : Branches (OpaqueNodePtr K V P)) → AllStandIn text arena branches → Contains (branch_roots branches) (needs.1.byte, needs.1.pointer) → HasLeafOf branches x
  leaf-of NoBranch stand inside = absurd (none_inside (needs.1.byte, needs.1.pointer) inside)
  leaf-of (Branch byte (Leaf pointer t) others) ((leaf, holds, has), stand) inside = elim (first_or_later (byte, pointer) (needs.1.byte, needs.1.pointer) (branch_roots others) inside) [
    | inl here ↦
        let at : pointer ≡ needs.1.pointer = ap (λ pair. pair.1) here in
        let same = one-leaf leaf needs.1.leaf (held arena pointer) holds (ap (held arena) at ∙ needs.1.is_held) in
        inl (sym has ∙ ap (λ l. text (leaf_key l)) same ∙ needs.1.has_text)
    | inr later ↦ inr (leaf-of others stand later)
  ]
  leaf-of (Branch byte (Inner pointer prefix branches) others) ((node, holds, shows, below), stand) inside = elim (first_or_later (byte, pointer) (needs.1.byte, needs.1.pointer) (branch_roots others) inside) [
    | inl here ↦
        let at : pointer ≡ needs.1.pointer = ap (λ pair. pair.1) here in
        absurd (not-both node needs.1.leaf (held arena pointer) holds (ap (held arena) at ∙ needs.1.is_held))
    | inr later ↦ leaf-of others stand later
  ]

  mutual
    shrinks-there : (tree : Tree (OpaqueNodePtr K V P)) → StandsIn text arena tree → Contains (places tree) parent → ShrinksWithout tree x
    shrinks-there (Leaf pointer t) (leaf, holds, has) inside = elim (first_or_later pointer parent [] inside) [
      | inl here ↦ absurd (not-both needs.1.node leaf (held arena parent) needs.1.parent_held (sym (ap (held arena) here) ∙ holds))
      | inr none ↦ absurd (none_inside parent none)
    ]
    shrinks-there (Inner pointer prefix branches) (node, holds, shows, stand) inside = elim (first_or_later pointer parent (branch_places branches) inside) [
      | inl here ↦
          let same = one-inner (held arena parent) node needs.1.node (sym (ap (held arena) here) ∙ holds) needs.1.parent_held in
          let children : needs.1.node.children ≡ branch_roots branches = ap (λ n. n.children) (sym same) ∙ shows.children in
          inl (
            subst (λ all. IsFewest (length all)) children needs.1.count,
            leaf-of branches stand (subst (λ all. Contains all (needs.1.byte, needs.1.pointer)) children needs.1.is_child),
          )
      | inr below ↦ inr (some-shrinks branches stand below)
    ]

    some-shrinks : (branches : Branches (OpaqueNodePtr K V P)) → AllStandIn text arena branches → Contains (branch_places branches) parent → SomeShrinksWithout branches x
    some-shrinks NoBranch stand inside = absurd (none_inside parent inside)
    some-shrinks (Branch byte tree others) (stands, stand) inside = elim (Contains-append_cases (places tree) (branch_places others) parent inside) [
      | inl here ↦ inl (shrinks-there tree stands here)
      | inr later ↦ inr (some-shrinks others stand later)
    ]

-- a removal that needs a smaller node in the arena needs a node by its texts
pub needs-node : {K V : Type 0} {P : ℕ} (text : K → List ℕ) (arena : NodeArena K V P) (root : Option (OpaqueNodePtr K V P)) (x : List ℕ) → IsArt text arena root → NeedsSmallerNode text arena x → NeedsNode (OpaqueNodePtr K V P) (texts_of text (entries_of text arena)) x
needs-node text arena None x nothing needs = absurd (some-inner needs.node (held arena needs.parent) needs.parent_held (nothing needs.parent))
needs-node text arena (Some root) x (tree, alone) needs = record {
  tree = tree;
  sound = alone.is_tree.sound;
  same_texts = sym (entry-texts text arena root tree alone);
  shrinks = shrinks-there text arena (x, needs) tree alone.is_tree.stands (alone.no_others needs.parent (some-inner needs.node (held arena needs.parent) needs.parent_held));
}

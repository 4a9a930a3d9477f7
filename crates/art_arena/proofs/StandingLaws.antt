-- Laws of held nodes, for the proofs of crates above.
use Rattle.std.proofs.Common.{◌≡◌, ℕ, List, length, drop, Option, Some, None, IsNone, IsSome, IfSome, ◌∙◌, refl, sym, ap, subst}
use Rattle.std.proofs.lemmas.Option.{same_Some}
use Rattle.std.proofs.lemmas.List.{take-append-drop}
use Rattle.std.specs.Option.{option_map}
use Rattle.art_bytes.specs.Text.{IsPrefixOf}
use Rattle.art_header.specs.Header.{capped}
use Rattle.art_header.specs.declared.node_type.NodeType.{NodeType}
use Rattle.art_header.specs.declared.node_type.NodeType.TheVariants as kinds
use Rattle.art_nodes.specs.Inner as nodes
use Rattle.art_nodes.specs.Pointers.{node_kind, opaque_key, opaque_pointer, slab_key}
use Rattle.art_nodes.specs.PrefixMatch.{HasPrefix}
use Rattle.art_nodes.specs.declared.pointers.OpaqueNodePtr.{OpaqueNodePtr}
use Rattle.art_nodes.specs.declared.leaf_node.LeafNode.{LeafNode}
use Rattle.art_arena.specs.Arena.{LeafPtr, NodeArena, Held, Nothing, HeldInner, HeldLeaf, as_inner, held, held_inner, held_under}
use Rattle.art_arena.specs.InnerRef.{inner_shown}
use Rattle.art_arena.specs.declared.inner_ref.AnyInnerRef.{AnyInnerRef}
use Rattle.art_arena.specs.Standing.{NodeStands}
use Rattle.art_arena.specs.Trees.{Branches}

-- a reference to an inner node, as contracts see it
abbrev RefTo : Type 0 → Type 0
RefTo H = AnyInnerRef (nodes.Inner H) (nodes.Inner H) (nodes.Inner H) (nodes.Inner H)

-- the prefix that a node shows is one that it may have
pub shown-prefix : {H : Type 0} (room : ℕ) (node : nodes.Inner H) (prefix : List ℕ) (branches : Branches H) → NodeStands room node prefix branches → HasPrefix node prefix
shown-prefix room node prefix branches shows =
    let stored = capped room (length prefix) in
    (sym shows.prefix_len, subst (λ front. IsPrefixOf front prefix) (sym shows.stored) (drop stored prefix, sym (take-append-drop stored prefix)))

-- what is not none is there
pub is-some : {X : Type 0} (found : Option X) → (¬ IsNone found) → IsSome found
is-some None there = absurd (there refl)
is-some (Some x) there = refl

-- what follows from an option where there is a value
pub at-some : {A : Type 0} (Holds : A → Type 0) (o : Option A) (x : A) → o ≡ Some x → IfSome o Holds → Holds x
at-some Holds None x is holds = absurd (cc)
at-some Holds (Some y) x is holds = subst Holds (same_Some y x is) holds

module _ {K V : Type 0} {P : ℕ} where
  -- the pointer to a leaf is the pointer that it was cast from
  pub leaf-pointer-is : (at : OpaqueNodePtr K V P) (leaf : LeafPtr K V P) → node_kind at ≡ kinds.Leaf → slab_key leaf ≡ opaque_key at → opaque_pointer kinds.Leaf (slab_key leaf) ≡ at
  leaf-pointer-is at leaf kind key = λ i. record { node_type = sym kind i; key = key i; leaf = record {} }

  -- a pointer holds one inner node
  pub one-inner : (h : Held (OpaqueNodePtr K V P) (LeafNode K V P)) (a b : nodes.Inner (OpaqueNodePtr K V P)) → h ≡ HeldInner a → h ≡ HeldInner b → a ≡ b
  one-inner h a b first second = cc

  -- what is an inner node is held as one
  pub as-held : (h : Held (OpaqueNodePtr K V P) (LeafNode K V P)) (node : nodes.Inner (OpaqueNodePtr K V P)) → as_inner h ≡ Some node → h ≡ HeldInner node
  as-held Nothing node is = absurd (cc)
  as-held (HeldInner inner) node is = let same : inner ≡ node = same_Some inner node is in ap HeldInner same
  as-held (HeldLeaf leaf) node is = absurd (cc)

  -- what a reference to an inner node shows is held, and where there is none, no inner node is
  module _ (at : Held (OpaqueNodePtr K V P) (LeafNode K V P)) (found : Option (RefTo (OpaqueNodePtr K V P))) (shows : option_map inner_shown found ≡ as_inner at) where
    pub inner-there : (node : RefTo (OpaqueNodePtr K V P)) → found ≡ Some node → at ≡ HeldInner (inner_shown node)
    inner-there node is = as-held at (inner_shown node) (sym shows ∙ ap (option_map inner_shown) is)

    pub no-inner-there : {A : Type 0} (node : nodes.Inner (OpaqueNodePtr K V P)) → found ≡ None → at ≡ HeldInner node → A
    no-inner-there node none is = let e : None ≡ Some node = sym (ap (option_map inner_shown) none) ∙ shows ∙ ap as_inner is in absurd (cc)

  inner_is_no_leaf : {A : Type 0} (o : Option (nodes.Inner (OpaqueNodePtr K V P))) (leaf : LeafNode K V P) → held_inner o ≡ HeldLeaf leaf → A
  inner_is_no_leaf None leaf is = absurd (cc)
  inner_is_no_leaf (Some node) leaf is = absurd (cc)

  -- only a pointer of the kind of leaves has a leaf
  pub leaf_kind : (arena : NodeArena K V P) (kind : NodeType) (key : ℕ) (leaf : LeafNode K V P) → held_under arena kind key ≡ HeldLeaf leaf → kind ≡ kinds.Leaf
  leaf_kind arena kinds.Node4 key leaf is = inner_is_no_leaf _ leaf is
  leaf_kind arena kinds.Node16 key leaf is = inner_is_no_leaf _ leaf is
  leaf_kind arena kinds.Node48 key leaf is = inner_is_no_leaf _ leaf is
  leaf_kind arena kinds.Node256 key leaf is = inner_is_no_leaf _ leaf is
  leaf_kind arena kinds.Leaf key leaf is = refl

  -- where a leaf is held, it is held under the pointer's slab key
  pub leaf_place : (arena : NodeArena K V P) (pointer : OpaqueNodePtr K V P) (leaf : LeafNode K V P) → held arena pointer ≡ HeldLeaf leaf → opaque_pointer kinds.Leaf (opaque_key pointer) ≡ pointer
  leaf_place arena pointer leaf is = let kind = leaf_kind arena (node_kind pointer) (opaque_key pointer) leaf is in λ i. record { node_type = (sym kind) i; key = opaque_key pointer; leaf = record {} }

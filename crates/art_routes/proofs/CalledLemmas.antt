-- A leaf that is held, and one with another value.
use Rattle.art_routes.proofs.LeafNames.{Changes, HeldLeaf, IsAlone, LeafNode, List, NodeArena, None, Nothing, OpaqueNodePtr, Option, Some, Tree, ap, held, held_leaf, leaf_at, list-exchanged, opaque_pointer, refl, stands-exchanged, sym, ℕ, ◌∙◌, ◌≡◌, ◌≢◌}
use Rattle.art_header.specs.declared.node_type.NodeType.TheVariants as kinds
use Rattle.art_nodes.specs.Leaf.{with_value}

-- a leaf that is held
pub held-slot : {K V : Type 0} {P : ℕ} (o : Option (LeafNode K V P)) → held_leaf {H = OpaqueNodePtr K V P} o ≢ Nothing → (leaf : LeafNode K V P) × (o ≡ Some leaf)
held-slot None is_held = absurd (is_held refl)
held-slot (Some leaf) is_held = (leaf, refl)

-- a tree that is alone in its arena is so once a leaf has another value
module _ {K V : Type 0} {P : ℕ} (text : K → List ℕ) (old new : NodeArena K V P) (key : ℕ) (leaf : LeafNode K V P) (there : leaf_at old key ≡ Some leaf) (value : V) (changes : Changes old new (opaque_pointer kinds.Leaf key) (HeldLeaf (with_value leaf value))) where
  not-this : (pointer : OpaqueNodePtr K V P) → held old pointer ≡ Nothing → pointer ≢ opaque_pointer kinds.Leaf key
  not-this pointer none same = let wrong : HeldLeaf leaf ≡ Nothing = sym (ap (held_leaf {H = OpaqueNodePtr K V P}) there) ∙ ap (held old) (sym same) ∙ none in absurd (cc)

  pub alone-kept : (root : OpaqueNodePtr K V P) (tree : Tree (OpaqueNodePtr K V P)) → IsAlone text old root tree → IsAlone text new root tree
  alone-kept root tree alone = record {
    is_tree = record { at_root = alone.is_tree.at_root; stands = stands-exchanged text old new key leaf (with_value leaf value) there changes tree refl alone.is_tree.stands; sound = alone.is_tree.sound };
    smallest_kinds = alone.smallest_kinds;
    short = alone.short;
    is_linked = list-exchanged old new key leaf (with_value leaf value) there changes refl refl _ alone.is_linked;
    no_others = λ pointer is_held. alone.no_others pointer (λ none. is_held (changes.others pointer (not-this pointer none) ∙ none));
  }

-- Linked lists of leaves that an arena keeps.
use Rattle.art_steps.proofs.Names.{◌≡◌, ◌≢◌, ◌∙◌, ℕ, List, [], ◌∷◌, ◌++◌, slice_get, Option, Some, None, sym, ap, subst, opaque_pointer, OpaqueNodePtr, LeafNode, NodeArena, HeldLeaf, Nothing, held, held_leaf, IsKnit, IsLinkedList, IsLinkedAfter, leaf_at, next_at, LeafKind}
use Rattle.art_links.proofs.HeldNodes.{leaf-of}

module _ {K V : Type 0} {P : ℕ} where
  list-after : (now new : NodeArena K V P) → ((key : ℕ) (leaf : LeafNode K V P) → leaf_at now key ≡ Some leaf → leaf_at new key ≡ Some leaf) → (before : Option ℕ) (keys : List ℕ) → IsLinkedAfter now before keys → IsLinkedAfter new before keys
  list-after now new kept before [] h = tt
  list-after now new kept before (key ∷ keys) ((leaf, at, previous, next), rest) = ((leaf, kept key leaf at, previous, next), list-after now new kept (Some key) keys rest)

  -- a list stays linked where its leaves are kept, and so where all nodes are
  pub list-on : (now new : NodeArena K V P) → ((key : ℕ) (leaf : LeafNode K V P) → leaf_at now key ≡ Some leaf → leaf_at new key ≡ Some leaf) → (keys : List ℕ) → IsLinkedList now keys → IsLinkedList new keys
  list-on now new kept keys s = record { distinct = s.distinct; is_linked = list-after now new kept None keys s.is_linked }

  pub IsLinkedList-kept : (now new : NodeArena K V P) → ((pointer : OpaqueNodePtr K V P) → held now pointer ≢ Nothing → held new pointer ≡ held now pointer) → (keys : List ℕ) → IsLinkedList now keys → IsLinkedList new keys
  IsLinkedList-kept now new kept = list-on now new (λ key leaf at.
      let there : held now (opaque_pointer LeafKind key) ≡ HeldLeaf leaf = ap held_leaf at in
      leaf-of (leaf_at new key) leaf (kept (opaque_pointer LeafKind key) (subst (λ x. x ≢ Nothing) (sym there) (λ e. cc)) ∙ there))

  -- `each_leaf_of_a_list_is_knit`, of an arena
  abbrev pub AreKnit : NodeArena K V P → Type 0
  AreKnit arena = (before after : List ℕ) (key : ℕ) → IsLinkedList arena (before ++ key ∷ after) → IsKnit arena key

  abbrev pub NameNext : NodeArena K V P → Type 0
  NameNext arena = (before after : List ℕ) (key : ℕ) → IsLinkedList arena (before ++ key ∷ after) → next_at arena key ≡ slice_get after 0

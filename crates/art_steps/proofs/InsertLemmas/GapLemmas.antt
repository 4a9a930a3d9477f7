-- Insertion: the gap among the leaves for the new one.
use Rattle.art_steps.proofs.Names.{◌≡◌, ◌∙◌, ℕ, ◌<◌, ◌^◌, List, [], ◌∷◌, ◌++◌, length, map, AllPairs, Contains, refl, sym, ap, subst, arith, append_assoc, Less, map-append, Contains-append_left, Contains-append_right, IsPrefixOf, text_order, leaf_key, opaque_key, opaque_pointer, OpaqueNodePtr, NodeArena, HeldLeaf, held, IsLinkedList, text_at, Tree, Branches, leaves, branch_leaves, texts, IsSound, IsWellFormed, IsAlone, Context, plug, path_to, leaves_before, leaves_after, HasGap, IsBeside, IsOnSide, IsLeafBeside, End, First, Last, LeafKind}
use Rattle.art_steps.proofs.InsertLemmas.AddedLeaf.{leaves-parted, leaves-filled}
use Rattle.art_steps.proofs.SharedLemmas.DictionaryLemmas.{leaf-held-in}
use Rattle.art_steps.proofs.SharedLemmas.ExchangedSubtree.{sound-whole}
use Rattle.art_steps.proofs.InsertLemmas.SubtreeLemmas.{beside-less, taken-sound, HasPlace, with_leaf}
use Rattle.art_links.proofs.HeldNodes.{text-held}

module _ {H : Type 0} where
  -- what is beside a gap is beside it in the longer lists of the whole
  pub beside-wide : (end : End) (front left right back : List (H × List ℕ)) (member : H × List ℕ) → IsBeside end left right member → IsBeside end (front ++ left) (right ++ back) member
  beside-wide First front left right back member (others, is) = (others ++ back, ap (λ all. all ++ back) is)
  beside-wide Last front left right back member (others, is) = (front ++ others, ap (λ all. front ++ all) is ∙ sym (append_assoc front others (member ∷ [])))

  beside-in : (end : End) (left right : List (H × List ℕ)) (member : H × List ℕ) → IsBeside end left right member → Contains (left ++ right) member
  beside-in First left right member (others, is) = Contains-append_right left right member (subst (λ all. Contains all member) (sym is) (0, omega arith, refl))
  beside-in Last left right member (others, is) = Contains-append_left left right member (subst (λ all. Contains all member) (sym is) (Contains-append_right others (member ∷ []) member (0, omega arith, refl)))

-- the slab keys of leaves
abbrev pub keys_of : {K V : Type 0} {P : ℕ} → List (OpaqueNodePtr K V P × List ℕ) → List ℕ
keys_of all = map opaque_key (map (λ leaf. leaf.0) all)

module _ {K V : Type 0} {P : ℕ} where
  pub keys-append : (a b : List (OpaqueNodePtr K V P × List ℕ)) → keys_of (a ++ b) ≡ keys_of a ++ keys_of b
  keys-append a b = ap (map opaque_key) (map-append (λ leaf. leaf.0) a b) ∙ map-append opaque_key (map (λ leaf. leaf.0) a) (map (λ leaf. leaf.0) b)

  keys-beside : (end : End) (left right : List (OpaqueNodePtr K V P × List ℕ)) (p : OpaqueNodePtr K V P) (x : List ℕ) → IsBeside end left right (p, x) → IsBeside end (keys_of left) (keys_of right) (opaque_key p)
  keys-beside First left right p x (others, is) = (keys_of others, ap keys_of is)
  keys-beside Last left right p x (others, is) = (keys_of others, ap keys_of is ∙ keys-append others ((p, x) ∷ []))

module _ {K V : Type 0} {P : ℕ} (text : K → List ℕ) (arena : NodeArena K V P) (root : OpaqueNodePtr K V P) (context : Context (OpaqueNodePtr K V P)) (part : Tree (OpaqueNodePtr K V P)) (before after : Branches (OpaqueNodePtr K V P)) (alone : IsAlone text arena root (plug context part)) (same_leaves : leaves part ≡ branch_leaves before ++ branch_leaves after) where
  abbrev left : List (OpaqueNodePtr K V P × List ℕ)
  left = leaves_before context ++ branch_leaves before

  abbrev right : List (OpaqueNodePtr K V P × List ℕ)
  right = branch_leaves after ++ leaves_after context

  pub list-parts : IsLinkedList arena (keys_of left ++ keys_of right)
  list-parts = subst (IsLinkedList arena) (ap keys_of (leaves-parted context part before after same_leaves) ∙ keys-append left right) alone.is_linked

  module _ (end : End) (key : ℕ) (beside : IsLeafBeside end (branch_leaves before) (branch_leaves after) (opaque_pointer LeafKind key)) where
    wide : IsBeside end left right (opaque_pointer LeafKind key, beside.0)
    wide = beside-wide end (leaves_before context) (branch_leaves before) (branch_leaves after) (leaves_after context) (opaque_pointer LeafKind key, beside.0) beside.1

    pub beside-key : IsBeside end (keys_of left) (keys_of right) key
    beside-key = keys-beside end left right (opaque_pointer LeafKind key) beside.0 wide

    pub gap : HasGap arena end key
    gap = record { left = keys_of left; right = keys_of right; is_linked = list-parts; beside = beside-key }

    -- the leaf there is held, and a new text lies on its side
    pub sibling : (leaf : _) × (held arena (opaque_pointer LeafKind key) ≡ HeldLeaf leaf) × (text (leaf_key leaf) ≡ beside.0)
    sibling = leaf-held-in text arena (plug context part) alone.is_tree.stands (opaque_pointer LeafKind key) beside.0 (subst (λ all. Contains all (opaque_pointer LeafKind key, beside.0)) (sym (leaves-parted context part before after same_leaves)) (beside-in end left right (opaque_pointer LeafKind key, beside.0) wide))

    pub sibling-text : text_at text arena key ≡ beside.0
    sibling-text = text-held text arena key sibling.0 sibling.1 ∙ sibling.2

    pub lies : (prefix : List ℕ) (byte : ℕ) (x : List ℕ) → HasPlace (path_to context) prefix before byte after → IsPrefixOf ((path_to context ++ prefix) ++ byte ∷ []) x → length x < 2 ^ 64
        → ((path : List ℕ) (tree : Tree (OpaqueNodePtr K V P)) → IsSound path tree → AllPairs (λ a b. text_order a b ≡ Less) (texts tree)) → IsOnSide end x (text_at text arena key)
    lies prefix byte x place leads short ascend =
        let now = with_leaf root prefix before byte root x after in
        let sound : IsWellFormed (plug context now) = sound-whole context part now alone.is_tree.sound (taken-sound (path_to context) prefix root before byte root x after place leads short) in
        let pairs = subst (λ all. AllPairs (λ a b. text_order a b ≡ Less) (map (λ leaf. leaf.1) all)) (leaves-filled context prefix root before byte root x after) (ascend [] (plug context now) sound) in
        subst (IsOnSide end x) (sym sibling-text) (beside-less left right root x pairs end (opaque_pointer LeafKind key) beside.0 wide)

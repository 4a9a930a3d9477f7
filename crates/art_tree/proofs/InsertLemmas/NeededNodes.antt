-- The nodes that a tree needs for a leaf more.
use Rattle.art_tree.proofs.Names.{◌≡◌, ◌⊎◌, ℕ, ◌+◌, ◌<◌, ◌≤◌, ◌^◌, List, [], ◌∷◌, ◌++◌, length, map, Contains, None, Some, refl, sym, ap, subst, inl, inr, arith, IsPrefixOf, kind_for, NodeType, opaque_pointer, OpaqueNodePtr, NodeArena, Nothing, SameCapacity, SameOtherCapacity, held, room, Tree, Leaf, Branches, Branch, branch_roots, leaves, branch_leaves, texts, IsAlone, Context, plug, path_to, leaves_before, leaves_after, join, HasEntry, one_if_same, nodes_of, branch_nodes_of, GrowsOnlyWhere, LacksRoomToInsert, the_one, LeafKind}
use Rattle.art_steps.proofs.InsertLemmas.AddedLeaf.{leaves-filled, leaves-parted}
use Rattle.art_steps.proofs.InsertLemmas.SubtreeLemmas.{HasPlace, taken-count, taken-sound, with_leaf}
use Rattle.art_steps.proofs.SharedLemmas.DictionaryLemmas.{AreApart, empty-entry, entry-of-text, text-of-entry}
use Rattle.art_steps.proofs.SharedLemmas.ExchangedSubtree.{sound-whole}
use Rattle.art_tree.proofs.SharedLemmas.NodeCounts.{more-around, nodes-join}
use Rattle.art_steps.proofs.SharedLemmas.RoomLemmas.{IsAsked, asked-grows, grows-then}
use Rattle.art_steps.proofs.SharedLemmas.TextLists.{text-new, text-or-new, text-stays}

abbrev texts_of : {H : Type 0} → List (H × List ℕ) → List (List ℕ)
texts_of all = map (λ leaf. leaf.1) all

-- the nodes of a subtree with a new leaf are its top node, the leaf and those of the other branches
pub nodes-taken : {H : Type 0} (kind : NodeType) (pointer : H) (prefix : List ℕ) (before : Branches H) (byte : ℕ) (leaf : H) (x : List ℕ) (after : Branches H)
    → nodes_of kind (with_leaf pointer prefix before byte leaf x after) ≡ one_if_same kind (kind_for (length (branch_roots (join before after)) + 1)) + (branch_nodes_of kind (join before after) + one_if_same kind LeafKind)
nodes-taken kind pointer prefix before byte leaf x after =
    let own = ap (λ n. one_if_same kind (kind_for n)) (taken-count before byte leaf x after) in
    let with_it = nodes-join kind before (Branch byte (Leaf leaf x) after) in
    let without = nodes-join kind before after in
    omega (arith, own, with_it, without)

module _ {K V : Type 0} {P : ℕ} (text : K → List ℕ) (old : NodeArena K V P) where
  -- the first text needs a leaf
  pub first-lacks : ((pointer : OpaqueNodePtr K V P) → held old pointer ≡ Nothing) → (x : List ℕ) → length x < 2 ^ 32 → room old LeafKind ≡ 0 → LacksRoomToInsert text old None x LeafKind
  first-lacks nothing x short none = record {
    tree = Leaf (opaque_pointer LeafKind 0) x;
    sound = ((x, refl), omega (arith, short));
    texts_are = λ other. (
      λ inside. inr (sym (the_one x other inside)),
      λ either. elim either [
        | inl has ↦ absurd (has (empty-entry text old nothing other))
        | inr same ↦ (0, omega arith, sym same)
      ],
    );
    needed = omega arith;
    none = none;
  }

  -- an allocation of a leaf changes the capacity only where the first text needs it
  pub first-memory : (new : NodeArena K V P) (key : K) → ((pointer : OpaqueNodePtr K V P) → held old pointer ≡ Nothing) → length (text key) < 2 ^ 32 → (1 ≤ room old LeafKind → SameCapacity old new) → SameOtherCapacity old new LeafKind → GrowsOnlyWhere old new (LacksRoomToInsert text old None (text key))
  first-memory new key nothing short had others =
      let lacks = LacksRoomToInsert text old None (text key) in
      grows-then old new (IsAsked old LeafKind) lacks (λ kind (same, none). subst lacks (sym same) (first-lacks nothing (text key) short (subst (λ k. room old k ≡ 0) same none)))
      (asked-grows old new LeafKind had others)

  -- where a subtree with the leaf has more nodes of a kind, so has the tree with the text
  module _ (root : OpaqueNodePtr K V P) (context : Context (OpaqueNodePtr K V P)) (part : Tree (OpaqueNodePtr K V P)) (prefix : List ℕ) (before : Branches (OpaqueNodePtr K V P)) (byte : ℕ) (after : Branches (OpaqueNodePtr K V P)) (x : List ℕ)
      (alone : IsAlone text old root (plug context part)) (same_leaves : leaves part ≡ branch_leaves before ++ branch_leaves after) (place : HasPlace (path_to context) prefix before byte after) (leads : IsPrefixOf ((path_to context ++ prefix) ++ byte ∷ []) x) (short : length x < 2 ^ 32)
      (apart : AreApart (texts (plug context part))) where
    abbrev now : Tree (OpaqueNodePtr K V P)
    now = with_leaf root prefix before byte root x after

    abbrev left : List (OpaqueNodePtr K V P × List ℕ)
    left = leaves_before context ++ branch_leaves before

    abbrev right : List (OpaqueNodePtr K V P × List ℕ)
    right = branch_leaves after ++ leaves_after context

    old-texts : texts (plug context part) ≡ texts_of (left ++ right)
    old-texts = ap texts_of (leaves-parted context part before after same_leaves)

    new-texts : texts (plug context now) ≡ texts_of (left ++ (root, x) ∷ right)
    new-texts = ap texts_of (leaves-filled context prefix root before byte root x after)

    is-text : (other : List ℕ) → Contains (texts (plug context now)) other → HasEntry text old other ⊎ (other ≡ x)
    is-text other inside = elim (text-or-new left right root x other (subst (λ all. Contains all other) new-texts inside)) [
      | inl was ↦ inl (entry-of-text text old root (plug context part) alone apart other (subst (λ all. Contains all other) (sym old-texts) was))
      | inr same ↦ inr same
    ]

    has-text : (other : List ℕ) → HasEntry text old other ⊎ (other ≡ x) → Contains (texts (plug context now)) other
    has-text other (inl has) = subst (λ all. Contains all other) (sym new-texts) (text-stays left right root x other (subst (λ all. Contains all other) old-texts (text-of-entry text old root (plug context part) alone other has)))
    has-text other (inr same) = subst (λ all. Contains all other) (sym new-texts) (text-new left right root x other same)

    pub insert-lacks : (kind : NodeType) → nodes_of kind part < nodes_of kind (with_leaf root prefix before byte root x after) → room old kind ≡ 0 → LacksRoomToInsert text old (Some root) x kind
    insert-lacks kind more none = record {
      tree = plug context now;
      sound = sound-whole context part now alone.is_tree.sound (taken-sound (path_to context) prefix root before byte root x after place leads (omega (arith, short)));
      texts_are = λ other. (is-text other, has-text other);
      needed = (plug context part, alone, more-around kind context part now more);
      none = none;
    }

-- Insertion: a new leaf under a node that has no child under its byte.
use Rattle.art_steps.proofs.Names.{◌≡◌, ◌≢◌, ◌∙◌, ◌↔◌, Bool, IsTrue, ℕ, ◌+◌, ◌<◌, ◌≤◌, ◌^◌, List, [], ◌∷◌, ◌++◌, length, AllPairs, Contains, Some, None, refl, sym, ap, subst, inl, inr, arith, All-contains, Contains-append_left, Contains-append_right, Contains-append_cases, kind_for, most_children, grown_kind, NodeType, Less, text_order, IsAscending, key_bytes, child_at, with_child, node_kind, opaque_key, opaque_pointer, OpaqueNodePtr, NodeArena, HeldInner, HeldLeaf, Nothing, held, SameNodes, SameOtherRoom, AreDistinct, IsLinkedList, text_at, NodeStands, StandsIn, AllStandIn, Tree, Inner, branch_roots, leaves, branch_leaves, texts, places, branch_places, IsSound, IsAlone, IsArt, Context, plug, path_to, leaves_before, leaves_after, KeepsAt, join, HasGap, IsBeside, HoldsEntry, HasOneMore, HasRoomToGrow, IsOnSide, StaysAt, WhetherFull, HasChildUnder, HasGapUnder, IsChildOrRoot, IsLeafBeside, IsEntered, HasSmallestKinds, HaveSmallestKinds, above, LacksChild, End, Spot, one-inner, the_one, LeafKind, Node16, Node256, Node4, Node48, InnerNode, node_with_child}
use Rattle.art_steps.proofs.InsertLemmas.AddedLeaf.{AreSteps, HasTaken, below-kept, has-child_under, last-others, tree-added}
use Rattle.art_steps.proofs.SharedLemmas.BranchLemmas.{leaves-join, places-join, smallest_kinds-split, stand-split}
use Rattle.art_steps.proofs.SharedLemmas.DictionaryLemmas.{AreApart}
use Rattle.art_steps.proofs.SharedLemmas.ExchangedSubtree.{distinct-part, kept-branches, sound-part, smallest_kinds-part, stands-part}
use Rattle.art_steps.proofs.InsertLemmas.GapLemmas.{beside-key, gap, keys_of, lies, list-parts}
use Rattle.art_steps.proofs.SharedLemmas.ExchangedTree.{alone-same}
use Rattle.art_steps.proofs.SharedLemmas.ParentLemmas.{inner-kind}
use Rattle.art_steps.proofs.InsertLemmas.NodeLemmas.{few-where-absent}
use Rattle.art_steps.proofs.PlaceLemmas.SidesAround.{byte-place}
use Rattle.art_steps.proofs.SharedLemmas.NodeKinds.{kind-grows, kind-stays}
use Rattle.art_steps.proofs.InsertLemmas.SubtreeLemmas.{HasChildPlace, child-place, in-taken, smallest_kinds-taken}

-- the next kind of an inner node is no leaf's
pub grown-inner : (kind : NodeType) → kind ≢ LeafKind → grown_kind kind ≢ LeafKind
grown-inner Node4 inner = λ e. cc
grown-inner Node16 inner = λ e. cc
grown-inner Node48 inner = λ e. cc
grown-inner Node256 inner = λ e. cc
grown-inner LeafKind inner = absurd (inner refl)

-- an inner node of a tree that is alone in an arena has no child under a key's next byte
pub record ChildSpot {K V : Type 0} {P : ℕ} (text : K → List ℕ) (arena : NodeArena K V P) (root : OpaqueNodePtr K V P) (spot : Spot K V P) (byte : ℕ) (key : K) : Type 0 where
  pub tree : Tree (OpaqueNodePtr K V P)
  pub alone : IsAlone text arena root tree
  pub lacks : LacksChild tree (text key) spot byte
  pub fits : byte < 256

-- also after spare capacity was made in the arena
pub child-reserved : {K V : Type 0} {P : ℕ} {text : K → List ℕ} (old reserved : NodeArena K V P) {root : OpaqueNodePtr K V P} {spot : Spot K V P} {byte : ℕ} {key : K} → (tree : Tree (OpaqueNodePtr K V P)) × IsAlone text old root tree × LacksChild tree (text key) spot byte → SameNodes old reserved
    → byte < 256 → ChildSpot text reserved root spot byte key
child-reserved {text = text} old reserved {root = root} (tree, alone, lacks) same fits = record { tree = tree; alone = alone-same text old reserved same root tree alone; lacks = lacks; fits = fits }

module _ {K V : Type 0} {P : ℕ} {text : K → List ℕ} {old : NodeArena K V P} {root : OpaqueNodePtr K V P} {spot : Spot K V P} {byte : ℕ} {key : K} (child_spot : ChildSpot text old root spot byte key) where
  abbrev lacks : LacksChild child_spot.tree (text key) spot byte
  lacks = child_spot.lacks

  abbrev pub around_it : Context (OpaqueNodePtr K V P)
  around_it = lacks.at.context

  abbrev pub node_there : Tree (OpaqueNodePtr K V P)
  node_there = Inner spot.node lacks.prefix lacks.branches

  whole-there : plug around_it node_there ≡ child_spot.tree
  whole-there = ap (plug around_it) (sym lacks.part) ∙ lacks.at.whole

  pub alone-there : IsAlone text old root (plug around_it node_there)
  alone-there = subst (IsAlone text old root) (sym whole-there) child_spot.alone

  pub stands-there : StandsIn text old node_there
  stands-there = stands-part text old old around_it node_there alone-there.is_tree.stands

  pub sound-there : IsSound (path_to around_it) node_there
  sound-there = sound-part around_it node_there alone-there.is_tree.sound

  pub smallest_kinds-there : HasSmallestKinds node_there
  smallest_kinds-there = smallest_kinds-part around_it node_there alone-there.smallest_kinds

  pub gap-there : HasChildPlace (path_to around_it) lacks.prefix lacks.branches byte
  gap-there = child-place (path_to around_it) lacks.prefix spot.node lacks.branches byte sound-there child_spot.fits lacks.absent

  abbrev pub place-there : HasGapUnder text old spot.node byte
  place-there = byte-place text old spot.node (path_to around_it) lacks.prefix lacks.branches byte gap-there stands-there sound-there

  pub leaves-there : leaves node_there ≡ branch_leaves gap-there.before ++ branch_leaves gap-there.after
  leaves-there = ap branch_leaves (sym gap-there.same) ∙ leaves-join gap-there.before gap-there.after

  -- the leaf beside the gap
  module _ (end : End) (sibling : ℕ) (beside : IsLeafBeside end (branch_leaves gap-there.before) (branch_leaves gap-there.after) (opaque_pointer LeafKind sibling)) where
    pub child-gap : HasGap old end sibling
    child-gap = gap text old root around_it node_there gap-there.before gap-there.after alone-there leaves-there end sibling beside

    pub child-lies : length (text key) < 2 ^ 32 → ((path : List ℕ) (t : Tree (OpaqueNodePtr K V P)) → IsSound path t → AllPairs (λ a b. text_order a b ≡ Less) (texts t)) → IsOnSide end (text key) (text_at text old sibling)
    child-lies short ascend = lies text old root around_it node_there gap-there.before gap-there.after alone-there leaves-there end sibling beside lacks.prefix byte (text key) gap-there.place lacks.leads (omega (arith, short)) ascend

  abbrev pub node-is : InnerNode (OpaqueNodePtr K V P)
  node-is = stands-there.0

  pub is-there : held old spot.node ≡ HeldInner node-is
  is-there = stands-there.1

  pub shown-there : NodeStands P node-is lacks.prefix lacks.branches
  shown-there = stands-there.2

  pub there-held : held old spot.node ≢ Nothing
  there-held none = let wrong : HeldInner node-is ≡ Nothing = sym is-there ∙ none in absurd (cc)

  pub there-inner : node_kind spot.node ≢ LeafKind
  there-inner = inner-kind old spot.node node-is is-there

  -- the node is as it was once the leaf is linked
  module _ (linked : NodeArena K V P) (leaf : OpaqueNodePtr K V P) (free : held old leaf ≡ Nothing) (stays : (p : OpaqueNodePtr K V P) → p ≢ leaf → StaysAt old linked p) where
    pub is-linked : held linked spot.node ≡ HeldInner node-is
    is-linked = (stays spot.node (λ same. there-held (ap (held old) same ∙ free))).keeps.inner node-is is-there

    pub linked-held : held linked spot.node ≢ Nothing
    linked-held none = let wrong : HeldInner node-is ≡ Nothing = sym is-linked ∙ none in absurd (cc)

    pub linked-absent : (node : InnerNode (OpaqueNodePtr K V P)) → held linked spot.node ≡ HeldInner node → child_at node.children byte ≡ None
    linked-absent node is =
        let same = one-inner (held linked spot.node) node-is node is-linked is in
        ap (λ n. child_at n.children byte) (sym same) ∙ ap (λ children. child_at children byte) shown-there.children ∙ lacks.absent

    pub linked-full : {full : Bool} → WhetherFull old spot.node full → WhetherFull linked spot.node full
    linked-full {full = full} tells node is = subst (λ n. (IsTrue full ↔ (length n.children ≡ most_children (node_kind spot.node))) × (length n.children ≤ most_children (node_kind spot.node))) (one-inner (held linked spot.node) node-is node is-linked is) (tells node-is is-there)

    pub linked-room : HasRoomToGrow old spot.node → SameOtherRoom old linked LeafKind → HasRoomToGrow linked spot.node
    linked-room rooms others node is full =
        let same = one-inner (held linked spot.node) node-is node is-linked is in
        let was = rooms node-is is-there (ap (λ n. length n.children) same ∙ full) in
        subst (λ n. 0 < n) (sym (others (grown_kind (node_kind spot.node)) (grown-inner (node_kind spot.node) there-inner))) was

    -- the leaf is a child of the node, which may be at another place
    module _ (new : NodeArena K V P) (top : OpaqueNodePtr K V P) (value : V) (entry : HoldsEntry linked leaf key value) (distinct : AreDistinct (places (plug around_it node_there))) (more : HasOneMore linked new spot.node node-is (node_with_child node-is byte leaf) top) where
      pub child-steps : AreSteps text old linked new around_it node_there root leaf top key value
      child-steps = record {
        stood = alone-there.is_tree.stands;
        sound = alone-there.is_tree.sound;
        was_root = alone-there.is_tree.at_root;
        distinct = distinct;
        free = free;
        entry = entry;
        stays = stays;
        top_was = elim more [ inl written ↦ inl (written.same, (node-is, ap (held old) written.same ∙ is-there)) | inr moved ↦ inr moved.replaced.was_free ];
        same = λ p other leaf_there. elim more [
          | inl written ↦ written.changes.others p (λ same. other (same ∙ sym written.same))
          | inr moved ↦ moved.replaced.others p other (λ same. (let l = leaf_there same in let wrong : HeldInner node-is ≡ HeldLeaf l.0 = sym is-linked ∙ ap (held linked) (sym same) ∙ l.1 in absurd (cc)))
        ];
      }

      top-held : held new top ≡ HeldInner (node_with_child node-is byte leaf)
      top-held = elim more [ inl written ↦ ap (held new) written.same ∙ written.changes.changed | inr moved ↦ moved.replaced.is_held ]

      count : length node-is.children ≡ length (branch_roots (join gap-there.before gap-there.after))
      count = ap length shown-there.children ∙ ap (λ b. length (branch_roots b)) (sym gap-there.same)

      top-kind : node_kind top ≡ kind_for (length (branch_roots (join gap-there.before gap-there.after)) + 1)
      top-kind =
          let n = length node-is.children in
          let kind : node_kind spot.node ≡ kind_for n = smallest_kinds-there.0 ∙ ap (λ children. kind_for (length children)) (sym shown-there.children) in
          let few = few-where-absent node-is byte child_spot.fits (subst (λ children. IsAscending (key_bytes children)) (sym shown-there.children) sound-there.1) (ap (λ children. child_at children byte) shown-there.children ∙ lacks.absent) in
          elim more [
            | inl written ↦ ap node_kind written.same ∙ kind ∙ sym (kind-stays n (subst (λ k. n < most_children k) kind written.few)) ∙ ap (λ m. kind_for (m + 1)) count
            | inr moved ↦ moved.replaced.kind ∙ ap grown_kind kind ∙ sym (kind-grows n (moved.full ∙ ap most_children kind) few) ∙ ap (λ m. kind_for (m + 1)) count
          ]

      pub child-taken : (last : NodeArena K V P) (root_now : OpaqueNodePtr K V P) (child_or_root : IsChildOrRoot new last (above around_it) top root root_now) (short : length (text key) < 2 ^ 32) (is_linked : IsLinkedList linked (keys_of (leaves_before around_it ++ branch_leaves gap-there.before) ++ opaque_key leaf ∷ keys_of (branch_leaves gap-there.after ++ leaves_after around_it)))
          → HasTaken text old linked new around_it node_there root leaf top key value child-steps last root_now child_or_root lacks.prefix gap-there.before gap-there.after byte
      child-taken last root_now child_or_root short is_linked = record {
        place = gap-there.place;
        leads = lacks.leads;
        short = short;
        node = node_with_child node-is byte leaf;
        is_held = top-held;
        shows = record {
          prefix_len = shown-there.prefix_len;
          stored = shown-there.stored;
          children = ap (λ children. with_child children byte leaf) shown-there.children ∙ gap-there.written leaf (text key);
        };
        stand_before = kept-branches text old last gap-there.before (parts-stand).0 (λ q inside. kept q (Contains-append_left (branch_places gap-there.before) (branch_places gap-there.after) q inside));
        stand_after = kept-branches text old last gap-there.after (parts-stand).1 (λ q inside. kept q (Contains-append_right (branch_places gap-there.before) (branch_places gap-there.after) q inside));
        same_leaves = leaves-there;
        is_linked = is_linked;
        gone = λ p inside. elim (Contains-append_cases (spot.node ∷ []) (branch_places lacks.branches) p inside) [
          | inl here ↦ elim more [
            | inl written ↦ inl (in-taken lacks.prefix top gap-there.before byte leaf (text key) gap-there.after p (inl (sym (the_one spot.node p here) ∙ sym written.same)))
            | inr moved ↦ inr (last-others text old linked new around_it node_there root leaf top key value child-steps last root_now child_or_root p inside ∙ ap (held new) (sym (the_one spot.node p here)) ∙ moved.replaced.is_free)
          ]
          | inr below ↦ inl (in-taken lacks.prefix top gap-there.before byte leaf (text key) gap-there.after p (inr (inr (subst (λ b. Contains (branch_places b) p) (sym gap-there.same) below))))
        ];
        smallest_kinds = (let parts = smallest_kinds-split gap-there.before gap-there.after (subst HaveSmallestKinds (sym gap-there.same) smallest_kinds-there.1) in smallest_kinds-taken top lacks.prefix gap-there.before byte leaf (text key) gap-there.after top-kind parts.0 parts.1);
      }
        where
          parts-stand : AllStandIn text old gap-there.before × AllStandIn text old gap-there.after
          parts-stand = stand-split text old gap-there.before gap-there.after (subst (AllStandIn text old) (sym gap-there.same) stands-there.3)

          kept : (q : OpaqueNodePtr K V P) → Contains (branch_places gap-there.before ++ branch_places gap-there.after) q → KeepsAt old last q
          kept q inside =
              let below : Contains (branch_places lacks.branches) q = subst (λ b. Contains (branch_places b) q) gap-there.same (subst (λ all. Contains all q) (sym (places-join gap-there.before gap-there.after)) inside) in
              below-kept text old linked new around_it node_there root leaf top key value child-steps last root_now child_or_root q (Contains-append_right (spot.node ∷ []) (branch_places lacks.branches) q below)
              (All-contains (λ other. other ≢ spot.node) (branch_places lacks.branches) q (distinct-part around_it node_there distinct).0 below)

-- an inner node has a child more, whatever node it is
abbrev pub ChildAdded : {K V : Type 0} {P : ℕ} → NodeArena K V P → NodeArena K V P → OpaqueNodePtr K V P → ℕ → OpaqueNodePtr K V P → OpaqueNodePtr K V P → Type 0
ChildAdded linked new pointer byte child top = (node : InnerNode (OpaqueNodePtr _ _ _)) → held linked pointer ≡ HeldInner node → HasOneMore linked new pointer node (node_with_child node byte child) top

module _ {K V : Type 0} {P : ℕ} {text : K → List ℕ} {old : NodeArena K V P} {root : OpaqueNodePtr K V P} {spot : Spot K V P} {byte : ℕ} {key : K} (child_spot : ChildSpot text old root spot byte key)
    (linked : NodeArena K V P) (leaf : OpaqueNodePtr K V P) (free : held old leaf ≡ Nothing) (stays : (p : OpaqueNodePtr K V P) → p ≢ leaf → StaysAt old linked p) (new : NodeArena K V P) (top : OpaqueNodePtr K V P) (value : V) (entry : HoldsEntry linked leaf key value)
    (one_place : (arena : NodeArena K V P) (path : List ℕ) (t : Tree (OpaqueNodePtr K V P)) → StandsIn text arena t → IsSound path t → AreDistinct (places t)) (added : ChildAdded linked new spot.node byte leaf top) where
  abbrev context : Context (OpaqueNodePtr K V P)
  context = around_it child_spot

  abbrev part : Tree (OpaqueNodePtr K V P)
  part = node_there child_spot

  abbrev prefix : List ℕ
  prefix = child_spot.lacks.prefix

  abbrev there : HasChildPlace (path_to context) prefix child_spot.lacks.branches byte
  there = gap-there child_spot

  whole-alone : IsAlone text old root (plug context part)
  whole-alone = alone-there child_spot

  distinct-there : AreDistinct (places (plug context part))
  distinct-there = one_place old [] (plug context part) whole-alone.is_tree.stands whole-alone.is_tree.sound

  more-there : HasOneMore linked new spot.node (node-is child_spot) (node_with_child (node-is child_spot) byte leaf) top
  more-there = added (node-is child_spot) (is-linked child_spot linked leaf free stays)

  abbrev steps-there : AreSteps text old linked new context part root leaf top key value
  steps-there = child-steps child_spot linked leaf free stays new top value entry distinct-there more-there

  pub child-has_child : HasChildUnder new spot.parent spot.node
  child-has_child = subst (λ above. HasChildUnder new above spot.node) child_spot.lacks.at.parent_is (has-child_under text old linked new context part root leaf top key value steps-there)

  module _ (last : NodeArena K V P) (root_now : OpaqueNodePtr K V P) (child_or_root : IsChildOrRoot new last spot.parent top root root_now) (short : length (text key) < 2 ^ 32) (end : End) (sibling : ℕ) (beside : IsLeafBeside end (branch_leaves there.before) (branch_leaves there.after) (opaque_pointer LeafKind sibling))
      (is_list : (left right : List ℕ) → IsLinkedList old (left ++ right) → IsBeside end left right sibling → IsLinkedList linked (left ++ opaque_key leaf ∷ right)) where
    child_or_root-there : IsChildOrRoot new last (above context) top root root_now
    child_or_root-there = subst (λ parent. IsChildOrRoot new last parent top root root_now) (sym child_spot.lacks.at.parent_is) child_or_root

    list-there : IsLinkedList linked (keys_of (leaves_before context ++ branch_leaves there.before) ++ opaque_key leaf ∷ keys_of (branch_leaves there.after ++ leaves_after context))
    list-there =
        let same = leaves-there child_spot in
        is_list _ _ (list-parts text old root context part there.before there.after whole-alone same) (beside-key text old root context part there.before there.after whole-alone same end sibling beside)

    taken-there : HasTaken text old linked new context part root leaf top key value steps-there last root_now child_or_root-there prefix there.before there.after byte
    taken-there = child-taken child_spot linked leaf free stays new top value entry distinct-there more-there last root_now child_or_root-there short list-there

    -- the tree has the leaf, and its entries that of the leaf
    pub child-added : ((path : List ℕ) (t : Tree (OpaqueNodePtr K V P)) → IsSound path t → AreApart (texts t)) → IsArt text last (Some root_now) × IsEntered text old last key value × HoldsEntry last leaf key value
    child-added =
        tree-added text old linked new context part root leaf top key value steps-there last root_now child_or_root-there prefix there.before there.after byte taken-there whole-alone

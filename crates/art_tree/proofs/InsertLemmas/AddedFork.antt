-- Insertion: a new inner node over a new leaf and the node from which its key differs.
use Rattle.art_tree.proofs.Names.{◌≡◌, ◌≢◌, ◌∙◌, ℕ, ◌+◌, ◌-◌, ◌<◌, ◌≤◌, ◌^◌, Bool, true, false, nat_lt, if◌then◌else◌, List, [], ◌∷◌, ◌++◌, length, length-append, take, drop, All, AllPairs, Contains, Some, refl, sym, ap, subst, inl, inr, arith, append-nil, slice_get_within, All-contains, Contains-append_right, Less, IsPrefixOf, text_order, StandsFor, capped, kind_for, header_of, InnerNode, leaf_key, node_kind, opaque_key, opaque_pointer, OpaqueNodePtr, LeafNode, NodeArena, Held, HeldInner, HeldLeaf, Nothing, held, Changes, SameNodes, AreDistinct, HoldsLeaf, IsLinkedList, text_at, NodeStands, StandsIn, AllStandIn, TreeAt, Tree, Leaf, Inner, Branches, branch_roots, root_of, leaves, branch_leaves, texts, places, branch_places, IsSound, IsAlone, IsArt, Context, plug, path_to, leaves_before, leaves_after, HasGap, HoldsEntry, IsBeside, IsOnSide, StaysAt, two_children, IsAtEnd, HasChildUnder, IsChildOrRoot, IsLeafBeside, IsEntered, above, Parts, IsPlaced, node_of, node_with_prefix, End, First, Last, Mismatch, Spot, leaf_kind, one-inner, LeafKind, Node4}
use Rattle.art_steps.proofs.InsertLemmas.AddedLeaf.{AreSteps, HasTaken, below-kept, has-child_under, last-others, leaves-kept, tree-added}
use Rattle.art_steps.proofs.SharedLemmas.BranchLemmas.{leaves-join, one_branch}
use Rattle.art_steps.proofs.SharedLemmas.ChangedTree.{place-held, root-place}
use Rattle.art_steps.proofs.SharedLemmas.DictionaryLemmas.{AreApart, end-in, leaf-held-in}
use Rattle.art_steps.proofs.SharedLemmas.ExchangedSubtree.{distinct-part, kept-branches, sound-part, smallest_kinds-part, stands-part}
use Rattle.art_steps.proofs.InsertLemmas.GapLemmas.{beside-key, gap, keys_of, lies, list-parts}
use Rattle.art_steps.proofs.SharedLemmas.ExchangedTree.{alone-same}
use Rattle.art_steps.proofs.InsertLemmas.SubtreeLemmas.{HasForkPlace, fork-place, in-taken, leaves-sides, leaves-trimmed, places-sides, places-trimmed, smallest_kinds-sides, smallest_kinds-taken, smallest_kinds-trimmed, both-sides, ltrimmed, branches_left, branches_right}
use Rattle.art_steps.proofs.PlaceLemmas.TextsBelow.{branch-text-begins}
use Rattle.art_links.proofs.HeldNodes.{cases_pointer, text-held}

module _ {H : Type 0} where
  -- the leaf at the end of a tree on whose side a byte lies is beside the gap there
  beside-tree : (byte other len : ℕ) (part : Tree H) (end : End) (p : H) → end ≡ (if nat_lt byte other then First else Last) → IsAtEnd end (leaves part) p
      → IsLeafBeside end (branch_leaves (branches_left byte other (ltrimmed len part))) (branch_leaves (branches_right byte other (ltrimmed len part))) p
  beside-tree byte other len part end p is at_end = by_test (nat_lt byte other) refl
    where
      alone : branch_leaves (one_branch other (ltrimmed len part)) ≡ leaves part
      alone = append-nil (leaves (ltrimmed len part)) ∙ leaves-trimmed len part

      by_test : (test : Bool) → nat_lt byte other ≡ test → IsLeafBeside end (branch_leaves (branches_left byte other (ltrimmed len part))) (branch_leaves (branches_right byte other (ltrimmed len part))) p
      by_test true less =
          let first : end ≡ First = is ∙ ap (λ t. if t then First else Last) less in
          let (x, others, at) = subst (λ e. IsAtEnd e (leaves part) p) first at_end in
          subst (λ e. IsLeafBeside e (branch_leaves (branches_left byte other (ltrimmed len part))) (branch_leaves (branches_right byte other (ltrimmed len part))) p) (sym first) (rw less (x, (others, alone ∙ at)))
      by_test false upto =
          let last : end ≡ Last = is ∙ ap (λ t. if t then First else Last) upto in
          let (x, others, at) = subst (λ e. IsAtEnd e (leaves part) p) last at_end in
          subst (λ e. IsLeafBeside e (branch_leaves (branches_left byte other (ltrimmed len part))) (branch_leaves (branches_right byte other (ltrimmed len part))) p) (sym last) (rw upto (x, (others, alone ∙ at)))

-- a key differs from the texts at a spot of a tree that is alone in an arena
pub record ForkPoint {K V : Type 0} {P : ℕ} (text : K → List ℕ) (arena : NodeArena K V P) (root : OpaqueNodePtr K V P) (spot : Spot K V P) (mismatch : Mismatch) (key : K) : Type 0 where
  pub tree : Tree (OpaqueNodePtr K V P)
  pub alone : IsAlone text arena root tree
  pub parts : Parts tree (text key) spot mismatch
  pub fits : mismatch.byte < 256
  pub node_fits : mismatch.node_byte < 256

-- also after spare capacity was made in the arena
pub fork-reserved : {K V : Type 0} {P : ℕ} {text : K → List ℕ} (old reserved : NodeArena K V P) {root : OpaqueNodePtr K V P} {spot : Spot K V P} {mismatch : Mismatch} {key : K} → (tree : Tree (OpaqueNodePtr K V P)) × IsAlone text old root tree × Parts tree (text key) spot mismatch → SameNodes old reserved
    → (mismatch.byte < 256) × (mismatch.node_byte < 256) → ForkPoint text reserved root spot mismatch key
fork-reserved {text = text} old reserved {root = root} (tree, alone, parts) same (fits, node_fits) = record { tree = tree; alone = alone-same text old reserved same root tree alone; parts = parts; fits = fits; node_fits = node_fits }

module _ {K V : Type 0} {P : ℕ} {text : K → List ℕ} {old : NodeArena K V P} {root : OpaqueNodePtr K V P} {spot : Spot K V P} {mismatch : Mismatch} {key : K} (fork_place : ForkPoint text old root spot mismatch key) where
  abbrev parts : Parts fork_place.tree (text key) spot mismatch
  parts = fork_place.parts

  abbrev pub around_it : Context (OpaqueNodePtr K V P)
  around_it = parts.at.context

  abbrev pub part_there : Tree (OpaqueNodePtr K V P)
  part_there = parts.at.part

  -- what the key shares with the part, and how many bytes the part's prefix is trimmed by
  abbrev pub shared_there : List ℕ
  shared_there = take (mismatch.index - length (path_to around_it)) (drop (length (path_to around_it)) (text key))

  abbrev pub len_there : ℕ
  len_there = mismatch.index + 1 - length (path_to around_it)

  abbrev pub trimmed_there : Tree (OpaqueNodePtr K V P)
  trimmed_there = ltrimmed len_there part_there

  abbrev pub left_there : Branches (OpaqueNodePtr K V P)
  left_there = branches_left mismatch.byte mismatch.node_byte trimmed_there

  abbrev pub right_there : Branches (OpaqueNodePtr K V P)
  right_there = branches_right mismatch.byte mismatch.node_byte trimmed_there

  pub alone-there : IsAlone text old root (plug around_it part_there)
  alone-there = subst (IsAlone text old root) (sym parts.at.whole) fork_place.alone

  pub stands-there : StandsIn text old part_there
  stands-there = stands-part text old old around_it part_there alone-there.is_tree.stands

  pub sound-there : IsSound (path_to around_it) part_there
  sound-there = sound-part around_it part_there alone-there.is_tree.sound

  pub past-there : length (path_to around_it) ≤ mismatch.index
  past-there = omega (arith, parts.at.deep, parts.later)

  pub fork-there : HasForkPlace (path_to around_it) shared_there (text key) mismatch.byte mismatch.node_byte len_there part_there
  fork-there = fork-place (path_to around_it) part_there (text key) mismatch.index mismatch.byte mismatch.node_byte sound-there parts.at.leads past-there parts.byte fork_place.fits fork_place.node_fits parts.differ parts.node

  abbrev pub tree-there : TreeAt text old spot.node
  tree-there = record { tree = part_there; path = path_to around_it; at_root = parts.at.at_root; stands = stands-there; sound = sound-there }

  pub leaves-there : leaves part_there ≡ branch_leaves left_there ++ branch_leaves right_there
  leaves-there = sym (leaves-trimmed len_there part_there) ∙ sym (leaves-sides mismatch.byte mismatch.node_byte trimmed_there) ∙ leaves-join left_there right_there

  -- the leaf on the key's side of the part is beside the gap for the key
  module _ (end : End) (sibling : ℕ) (at_end : IsAtEnd end (leaves part_there) (opaque_pointer LeafKind sibling)) (end_is : end ≡ (if nat_lt mismatch.byte mismatch.node_byte then First else Last)) where
    pub beside-there : IsLeafBeside end (branch_leaves left_there) (branch_leaves right_there) (opaque_pointer LeafKind sibling)
    beside-there = beside-tree mismatch.byte mismatch.node_byte len_there part_there end (opaque_pointer LeafKind sibling) end_is at_end

  module _ (end : End) (sibling : ℕ) (beside : IsLeafBeside end (branch_leaves left_there) (branch_leaves right_there) (opaque_pointer LeafKind sibling)) where
    pub gap-there : HasGap old end sibling
    gap-there = gap text old root around_it part_there left_there right_there alone-there leaves-there end sibling beside

    pub lies-there : length (text key) < 2 ^ 32 → ((path : List ℕ) (t : Tree (OpaqueNodePtr K V P)) → IsSound path t → AllPairs (λ a b. text_order a b ≡ Less) (texts t)) → IsOnSide end (text key) (text_at text old sibling)
    lies-there short ascend = lies text old root around_it part_there left_there right_there alone-there leaves-there end sibling beside shared_there mismatch.byte (text key) fork-there.place fork-there.leads (omega (arith, short)) ascend

  pub there-held : held old spot.node ≢ Nothing
  there-held = subst (λ p. held old p ≢ Nothing) parts.at.at_root (place-held text old part_there stands-there (root_of part_there) (root-place part_there))

  -- the node is as it was once the leaf is linked, but for a leaf's links
  module _ (linked : NodeArena K V P) (leaf : OpaqueNodePtr K V P) (free : held old leaf ≡ Nothing) (stays : (p : OpaqueNodePtr K V P) → p ≢ leaf → StaysAt old linked p) where
    not-new : (p : OpaqueNodePtr K V P) → held old p ≢ Nothing → p ≢ leaf
    not-new p was same = was (ap (held old) same ∙ free)

    pub linked-inner : (node : InnerNode (OpaqueNodePtr K V P)) → held old spot.node ≡ HeldInner node → held linked spot.node ≡ HeldInner node
    linked-inner node is = (stays spot.node (not-new spot.node there-held)).keeps.inner node is

    -- what the node is, in the tree and in the linked arena
    record IsLinkedInner (node : InnerNode (OpaqueNodePtr K V P)) : Type 0 where
      pub prefix : List ℕ
      pub branches : Branches (OpaqueNodePtr K V P)
      pub part : part_there ≡ Inner spot.node prefix branches
      pub was : held old spot.node ≡ HeldInner node
      pub shows : NodeStands P node prefix branches
      pub stand : AllStandIn text old branches

    linked-there : (node : InnerNode (OpaqueNodePtr K V P)) → held linked spot.node ≡ HeldInner node → IsLinkedInner node
    linked-there node is = by_part part_there refl stands-there parts.at.at_root
      where
        by_part : (part : Tree (OpaqueNodePtr K V P)) → part_there ≡ part → StandsIn text old part → root_of part ≡ spot.node → IsLinkedInner node
        by_part (Leaf pointer x) same (l, holds, has) root_is =
            let now = (stays spot.node (not-new spot.node there-held)).keeps.leaf l (ap (held old) (sym root_is) ∙ holds) in
            let wrong : HeldLeaf now.0 ≡ HeldInner node = sym now.1 ∙ is in absurd (cc)
        by_part (Inner pointer prefix branches) same (own, holds, shows, stand) root_is =
            let one = one-inner (held linked spot.node) own node (linked-inner own (ap (held old) (sym root_is) ∙ holds)) is in
            record {
              prefix = prefix;
              branches = branches;
              part = same ∙ ap (λ p. Inner p prefix branches) root_is;
              was = ap (held old) (sym root_is) ∙ holds ∙ ap HeldInner one;
              shows = subst (λ n. NodeStands P n prefix branches) one shows;
              stand = stand;
            }

    pub linked-held : held linked spot.node ≢ Nothing
    linked-held none = by_held (held old spot.node) refl
      where
        by_held : (h : Held (OpaqueNodePtr K V P) (LeafNode K V P)) → held old spot.node ≡ h → ⊥
        by_held Nothing is = there-held is
        by_held (HeldInner node) is = let wrong : HeldInner node ≡ Nothing = sym (linked-inner node is) ∙ none in absurd (cc)
        by_held (HeldLeaf l) is = let now = (stays spot.node (not-new spot.node there-held)).keeps.leaf l is in let wrong : HeldLeaf now.0 ≡ Nothing = sym now.1 ∙ none in absurd (cc)

    pub within-there : (node : InnerNode (OpaqueNodePtr K V P)) → held linked spot.node ≡ HeldInner node → mismatch.index + 1 - spot.depth ≤ node.prefix_len
    within-there node is =
        let inner = linked-there node is in
        let enough = fork-there.fits spot.node inner.prefix inner.branches inner.part in
        omega (arith, enough, inner.shows.prefix_len, parts.at.deep)

    -- a leaf of the part is held on, with its text, which begins with the path and the prefix
    module _ (end : End) (sibling : ℕ) (at_end : IsAtEnd end (leaves part_there) (opaque_pointer LeafKind sibling)) where
      abbrev x : List ℕ
      x = at_end.0

      inside : Contains (leaves part_there) (opaque_pointer LeafKind sibling, x)
      inside = end-in end (leaves part_there) (opaque_pointer LeafKind sibling) at_end

      sibling-was : (l : LeafNode K V P) × (held old (opaque_pointer LeafKind sibling) ≡ HeldLeaf l) × (text (leaf_key l) ≡ x)
      sibling-was = leaf-held-in text old part_there stands-there (opaque_pointer LeafKind sibling) x inside

      sibling-is : (l : LeafNode K V P) × (held linked (opaque_pointer LeafKind sibling) ≡ HeldLeaf l) × (text (leaf_key l) ≡ x)
      sibling-is =
          let was = sibling-was in
          let other : opaque_pointer LeafKind sibling ≢ leaf = not-new (opaque_pointer LeafKind sibling) (λ none. let wrong : HeldLeaf was.0 ≡ Nothing = sym was.1 ∙ none in absurd (cc)) in
          let now = (stays (opaque_pointer LeafKind sibling) other).keeps.leaf was.0 was.1 in
          (now.0, now.1, ap text now.2 ∙ was.2)

      pub sibling-held : HoldsLeaf linked sibling
      sibling-held none = let wrong : HeldLeaf sibling-is.0 ≡ Nothing = sym sibling-is.1 ∙ none in absurd (cc)

      pub sibling-has : text_at text linked sibling ≡ x
      sibling-has = text-held text linked sibling sibling-is.0 sibling-is.1 ∙ sibling-is.2

      sibling-begins : (node : InnerNode (OpaqueNodePtr K V P)) → (is : held linked spot.node ≡ HeldInner node) → IsPrefixOf (path_to around_it ++ (linked-there node is).prefix) x
      sibling-begins node is =
          let inner = linked-there node is in
          let sound : IsSound (path_to around_it) (Inner spot.node inner.prefix inner.branches) = subst (IsSound (path_to around_it)) inner.part sound-there in
          branch-text-begins (path_to around_it ++ inner.prefix) inner.branches (opaque_pointer LeafKind sibling) x sound.2 (subst (λ t. Contains (leaves t) (opaque_pointer LeafKind sibling, x)) inner.part inside)

      pub text-there : (node : InnerNode (OpaqueNodePtr K V P)) → held linked spot.node ≡ HeldInner node → spot.depth + node.prefix_len ≤ length (text_at text linked sibling)
      text-there node is =
          let inner = linked-there node is in
          let begins = sibling-begins node is in
          omega (arith, parts.at.deep, inner.shows.prefix_len, length-append (path_to around_it) inner.prefix, ap length begins.1, length-append (path_to around_it ++ inner.prefix) begins.0, ap length sibling-has)

      -- the arena once the node is trimmed
      module _ (trimmed : NodeArena K V P) (leaf_same : node_kind spot.node ≡ LeafKind → SameNodes linked trimmed)
          (trims : (node : InnerNode (OpaqueNodePtr K V P)) (path prefix rest : List ℕ) → held linked spot.node ≡ HeldInner node → length path ≡ spot.depth → text_at text linked sibling ≡ path ++ prefix ++ rest → StandsFor P (header_of node) prefix → Changes linked trimmed spot.node (HeldInner (node_with_prefix P node (drop (mismatch.index + 1 - spot.depth) prefix)))) where
        pub record IsTrimmed : Type 0 where
          pub others : (p : OpaqueNodePtr K V P) → (p ≡ spot.node → (l : LeafNode K V P) × (held linked p ≡ HeldLeaf l)) → held trimmed p ≡ held linked p
          pub is_held : held trimmed spot.node ≢ Nothing
          pub inner : (node : InnerNode (OpaqueNodePtr K V P)) → held linked spot.node ≡ HeldInner node → (now : InnerNode (OpaqueNodePtr K V P)) × (held trimmed spot.node ≡ HeldInner now) × ((prefix : List ℕ) (branches : Branches (OpaqueNodePtr K V P)) → part_there ≡ Inner spot.node prefix branches → NodeStands P now (drop len_there prefix) branches)

        pub is-trimmed : IsTrimmed
        is-trimmed = by_held (held linked spot.node) refl
          where
            by_held : (h : Held (OpaqueNodePtr K V P) (LeafNode K V P)) → held linked spot.node ≡ h → IsTrimmed
            by_held Nothing is = absurd (linked-held is)
            by_held (HeldLeaf l) is =
                let same = leaf_same (leaf_kind linked (node_kind spot.node) (opaque_key spot.node) l is) in
                record { others = λ p there. same p; is_held = λ none. linked-held (sym (same spot.node) ∙ none); inner = λ node is_inner. absurd (let wrong : HeldLeaf l ≡ HeldInner node = sym is ∙ is_inner in cc) }
            by_held (HeldInner node) is =
                let inner = linked-there node is in
                let begins = sibling-begins node is in
                let changes = trims node (path_to around_it) inner.prefix begins.0 is parts.at.deep (sibling-has ∙ begins.1) (λ i. record { count = length node.children; prefix_len = inner.shows.prefix_len i; stored = inner.shows.stored i }) in
                record {
                  others = λ p there. elim (cases_pointer p spot.node) [ inr differ ↦ changes.others p differ | inl same ↦ (let l = there same in let wrong : HeldInner node ≡ HeldLeaf l.0 = sym is ∙ ap (held linked) (sym same) ∙ l.1 in absurd (cc)) ];
                  is_held = λ none. (let wrong : HeldInner (node_with_prefix P node (drop (mismatch.index + 1 - spot.depth) inner.prefix)) ≡ Nothing = sym changes.changed ∙ none in absurd (cc));
                  inner = λ own own_is.
                      let one = one-inner (held linked spot.node) node own is own_is in (
                        node_with_prefix P node (drop (mismatch.index + 1 - spot.depth) inner.prefix),
                        changes.changed,
                        λ prefix branches same.
                            let both : Inner spot.node inner.prefix inner.branches ≡ Inner spot.node prefix branches = sym inner.part ∙ same in
                            let prefix_is : inner.prefix ≡ prefix = cc in
                            let branches_are : inner.branches ≡ branches = cc in
                            let len_is : drop (mismatch.index + 1 - spot.depth) inner.prefix ≡ drop len_there prefix = ap (λ p. drop (mismatch.index + 1 - spot.depth) p) prefix_is ∙ ap (λ d. drop (mismatch.index + 1 - d) prefix) (sym parts.at.deep) in
                            record {
                              prefix_len = ap length len_is;
                              stored = ap (λ p. take (capped P (length p)) p) len_is;
                              children = inner.shows.children ∙ ap branch_roots branches_are;
                            },
                      );
                }

        -- the new node stands over both
        module _ (value : V) (entry : HoldsEntry linked leaf key value) (slot : ℕ) (leaf_is : leaf ≡ opaque_pointer LeafKind slot) where
          leaf-apart : leaf ≢ spot.node
          leaf-apart same = there-held (ap (held old) (sym same) ∙ free)

          leaf-trimmed : held trimmed leaf ≡ HeldLeaf entry.leaf
          leaf-trimmed = is-trimmed.others leaf (λ same. absurd (leaf-apart same)) ∙ entry.is_held

          pub new-leaf-held : HoldsLeaf trimmed slot
          new-leaf-held none = let wrong : HeldLeaf entry.leaf ≡ Nothing = sym leaf-trimmed ∙ ap (held trimmed) leaf_is ∙ none in absurd (cc)

          pub text-trimmed : text_at text trimmed slot ≡ text key
          text-trimmed = text-held text trimmed slot entry.leaf (ap (held trimmed) (sym leaf_is) ∙ leaf-trimmed) ∙ ap text entry.key

          pub index-within : mismatch.index ≤ length (text_at text trimmed slot)
          index-within = omega (arith, slice_get_within (text key) mismatch.index mismatch.byte parts.byte, ap length text-trimmed)

          module _ (new : NodeArena K V P) (top : OpaqueNodePtr K V P) (one_place : (arena : NodeArena K V P) (path : List ℕ) (t : Tree (OpaqueNodePtr K V P)) → StandsIn text arena t → IsSound path t → AreDistinct (places t))
              (placed : IsPlaced trimmed new Node4 (node_of P (take (mismatch.index - spot.depth) (drop spot.depth (text_at text trimmed slot))) (two_children mismatch.byte leaf mismatch.node_byte spot.node)) top) where
            distinct-there : AreDistinct (places (plug around_it part_there))
            distinct-there = one_place old [] (plug around_it part_there) alone-there.is_tree.stands alone-there.is_tree.sound

            top-free : held linked top ≡ Nothing
            top-free = sym (is-trimmed.others top (λ same. absurd (is-trimmed.is_held (ap (held trimmed) (sym same) ∙ placed.was_free)))) ∙ placed.was_free

            abbrev fork-steps : AreSteps text old linked new around_it part_there root leaf top key value
            fork-steps = record {
              stood = alone-there.is_tree.stands;
              sound = alone-there.is_tree.sound;
              was_root = alone-there.is_tree.at_root;
              distinct = distinct-there;
              free = free;
              entry = entry;
              stays = stays;
              top_was = inr top-free;
              same = λ p other leaf_there. placed.changes.others p other ∙ is-trimmed.others p (λ same. leaf_there (same ∙ sym parts.at.at_root));
            }

            pub fork-has_child : HasChildUnder new spot.parent spot.node
            fork-has_child = subst (HasChildUnder new spot.parent) parts.at.at_root (subst (λ above. HasChildUnder new above (root_of part_there)) parts.at.parent_is (has-child_under text old linked new around_it part_there root leaf top key value fork-steps))

            module _ (last : NodeArena K V P) (root_now : OpaqueNodePtr K V P) (child_or_root : IsChildOrRoot new last spot.parent top root root_now) (short : length (text key) < 2 ^ 32) (end_is : end ≡ (if nat_lt mismatch.byte mismatch.node_byte then First else Last))
                (is_list : (left right : List ℕ) → IsLinkedList old (left ++ right) → IsBeside end left right sibling → IsLinkedList linked (left ++ opaque_key leaf ∷ right)) where
              child_or_root-there : IsChildOrRoot new last (above around_it) top root root_now
              child_or_root-there = subst (λ parent. IsChildOrRoot new last parent top root root_now) (sym parts.at.parent_is) child_or_root

              list-there : IsLinkedList linked (keys_of (leaves_before around_it ++ branch_leaves left_there) ++ opaque_key leaf ∷ keys_of (branch_leaves right_there ++ leaves_after around_it))
              list-there =
                  is_list _ _ (list-parts text old root around_it part_there left_there right_there alone-there leaves-there)
                  (beside-key text old root around_it part_there left_there right_there alone-there leaves-there end sibling (beside-there end sibling at_end end_is))

              trimmed-stands : StandsIn text last trimmed_there
              trimmed-stands = by_part part_there refl stands-there
                where
                  by_part : (part : Tree (OpaqueNodePtr K V P)) → part_there ≡ part → StandsIn text old part → StandsIn text last (ltrimmed len_there part)
                  by_part (Leaf pointer x) same (l, holds, has) =
                      let now = (leaves-kept text old linked new around_it part_there root leaf top key value fork-steps last root_now child_or_root-there pointer l holds).leaf l holds in
                      (now.0, now.1, ap text now.2 ∙ has)
                  by_part (Inner pointer prefix branches) same (own, holds, shows, stand) =
                      let root_is : pointer ≡ spot.node = sym (ap root_of same) ∙ parts.at.at_root in
                      let now = is-trimmed.inner own (linked-inner own (ap (held old) (sym root_is) ∙ holds)) in
                      let other : spot.node ≢ top = λ at_top. linked-held (ap (held linked) at_top ∙ top-free) in
                      let inside : Contains (places part_there) pointer = subst (λ t. Contains (places t) pointer) (sym same) (0, omega arith, refl) in
                      let apart : All (λ q. q ≢ pointer) (branch_places branches) = (subst (λ t. AreDistinct (places t)) same (distinct-part around_it part_there distinct-there)).0 in (
                        now.0,
                        last-others text old linked new around_it part_there root leaf top key value fork-steps last root_now child_or_root-there pointer inside ∙ ap (held new) root_is ∙ placed.changes.others spot.node other ∙ now.1,
                        now.2 prefix branches (same ∙ ap (λ p. Inner p prefix branches) root_is),
                        kept-branches text old last branches stand (λ q below. below-kept text old linked new around_it part_there root leaf top key value fork-steps last root_now child_or_root-there q
                            (subst (λ t. Contains (places t) q) (sym same) (Contains-append_right (pointer ∷ []) (branch_places branches) q below))
                            (λ at_root. All-contains (λ other. other ≢ pointer) (branch_places branches) q apart below (at_root ∙ ap root_of same))),
                      )

              sides-stand : AllStandIn text last left_there × AllStandIn text last right_there
              sides-stand = by_test (nat_lt mismatch.byte mismatch.node_byte) refl
                where
                  by_test : (test : Bool) → nat_lt mismatch.byte mismatch.node_byte ≡ test → AllStandIn text last left_there × AllStandIn text last right_there
                  by_test true is = rw is (tt, (trimmed-stands, tt))
                  by_test false is = rw is ((trimmed-stands, tt), tt)

              shared-is : take (mismatch.index - spot.depth) (drop spot.depth (text_at text trimmed slot)) ≡ shared_there
              shared-is = ap (λ t. take (mismatch.index - spot.depth) (drop spot.depth t)) text-trimmed ∙ ap (λ d. take (mismatch.index - d) (drop d (text key))) (sym parts.at.deep)

              taken-there : HasTaken text old linked new around_it part_there root leaf top key value fork-steps last root_now child_or_root-there shared_there left_there right_there mismatch.byte
              taken-there = record {
                place = fork-there.place;
                leads = fork-there.leads;
                short = short;
                node = node_of P shared_there (two_children mismatch.byte leaf mismatch.node_byte spot.node);
                is_held = placed.changes.changed ∙ ap (λ s. HeldInner (node_of P s (two_children mismatch.byte leaf mismatch.node_byte spot.node))) shared-is;
                shows = record { prefix_len = refl; stored = refl; children = ap (two_children mismatch.byte leaf mismatch.node_byte) (sym parts.at.at_root) ∙ fork-there.written leaf (text key) };
                stand_before = sides-stand.0;
                stand_after = sides-stand.1;
                same_leaves = leaves-there;
                is_linked = list-there;
                gone = λ p inside. inl (in-taken shared_there top left_there mismatch.byte leaf (text key) right_there p (inr (inr (subst (λ all. Contains all p) (sym (places-sides mismatch.byte mismatch.node_byte trimmed_there ∙ places-trimmed len_there part_there)) inside))));
                smallest_kinds = (let sides = smallest_kinds-sides mismatch.byte mismatch.node_byte trimmed_there (smallest_kinds-trimmed len_there part_there (smallest_kinds-part around_it part_there alone-there.smallest_kinds)) in
                    smallest_kinds-taken top shared_there left_there mismatch.byte leaf (text key) right_there (placed.is_kind ∙ ap (λ b. kind_for (length (branch_roots b) + 1)) (sym (both-sides mismatch.byte mismatch.node_byte trimmed_there))) sides.0 sides.1);
              }

              -- the tree has the leaf, and its entries that of the leaf
              pub fork-added : ((path : List ℕ) (t : Tree (OpaqueNodePtr K V P)) → IsSound path t → AreApart (texts t)) → IsArt text last (Some root_now) × IsEntered text old last key value × HoldsEntry last leaf key value
              fork-added =
                  tree-added text old linked new around_it part_there root leaf top key value fork-steps last root_now child_or_root-there shared_there left_there right_there mismatch.byte taken-there alone-there

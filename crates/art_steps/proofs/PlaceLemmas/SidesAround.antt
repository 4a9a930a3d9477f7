-- On which side of a key the leaves of a tree lie, by the key's place.
use Rattle.art_steps.proofs.Names.{◌≡◌, ◌≢◌, ◌∙◌, ◌⊎◌, ℕ, suc, ◌<◌, ◌≤◌, true, false, nat_lt, if◌then◌else◌, List, [], ◌∷◌, ◌++◌, take, All, refl, sym, ap, subst, inl, inr, arith, Greater, cases_lt, le-ltb, lt-ltb, All-nil, All-cons, All-append, All-weaker, IsPrefixOf, prefix-on, prefix-shorter, ChildMap, IsAscendingFrom, key_bytes, OpaqueNodePtr, NodeArena, HeldLeaf, Nothing, held, IsAtEnd, StandsIn, Tree, Leaf, Inner, Branches, NoBranch, Branch, branch_roots, root_of, leaves, branch_leaves, IsSound, AreSound, IsWellFormed, End, First, Last, Context, Whole, Under, plug, path_to, leaves_before, leaves_after, join, HasGapUnder, IsLeafBeside, branches_on, pairs_on, IsProperPrefixOf, reach, BeginsAll, IsSpot, IsSpotIn, LacksChild, LeadsToLeaf, Parts, comes_before, is_before, is_last, AreOn, IsBesideKey, Mismatch, Side, Spot}
use Rattle.art_steps.proofs.InsertLemmas.AddedLeaf.{leaves-parted}
use Rattle.art_steps.proofs.InsertLemmas.GapLemmas.{beside-wide}
use Rattle.art_steps.proofs.InsertLemmas.SubtreeLemmas.{HasChildPlace, child-place}
use Rattle.art_steps.proofs.PlaceLemmas.SideLemmas.{lesser-before, greater-after, begun-side, gap-next, part-next}
use Rattle.art_steps.proofs.PlaceLemmas.TextsBelow.{leaves-begin, leaves-reach}
use Rattle.art_steps.proofs.SharedLemmas.BranchLemmas.{leaves-join, roots-join, sound-split}
use Rattle.art_steps.proofs.SharedLemmas.ExchangedSubtree.{before-byte, leaves-plug, sound-part, stands-part}
use Rattle.art_steps.proofs.SharedLemmas.PrefixLemmas.{key-on}

module _ {H : Type 0} where
  module _ (side : Side) (path key : List ℕ) (byte : ℕ) (leads : IsPrefixOf (path ++ byte ∷ []) key) where
    -- the leaves of branches under lesser bytes than the key's come before it
    lesser-branches : (low : ℕ) (branches : Branches H) (child : H) (back : ChildMap H) → AreSound path branches → IsAscendingFrom low (key_bytes (branch_roots branches ++ (byte, child) ∷ back)) → AreOn side key true (branch_leaves branches)
    lesser-branches low NoBranch child back sound ascend = All-nil (λ leaf. is_before side key leaf.1 ≡ true)
    lesser-branches low (Branch b tree others) child back sound ascend =
        let less : b < byte = before-byte (suc b) (branch_roots others) byte child back ascend.2 in
        All-append (λ leaf. is_before side key leaf.1 ≡ true) (leaves tree) (branch_leaves others)
        (All-weaker (λ leaf. IsPrefixOf (path ++ b ∷ []) leaf.1) (λ leaf. is_before side key leaf.1 ≡ true) (λ leaf on. lesser-before side path b byte leaf.1 key on leads (omega (arith, less))) (leaves tree) (leaves-begin (path ++ b ∷ []) tree sound.0))
        (lesser-branches (suc b) others child back sound.1 ascend.2)

    -- those under greater bytes come after it
    greater-branches : (low : ℕ) (branches : Branches H) → AreSound path branches → byte < low → IsAscendingFrom low (key_bytes (branch_roots branches)) → AreOn side key false (branch_leaves branches)
    greater-branches low NoBranch sound less ascend = All-nil (λ leaf. is_before side key leaf.1 ≡ false)
    greater-branches low (Branch b tree others) sound less ascend =
        All-append (λ leaf. is_before side key leaf.1 ≡ false) (leaves tree) (branch_leaves others)
        (All-weaker (λ leaf. IsPrefixOf (path ++ b ∷ []) leaf.1) (λ leaf. is_before side key leaf.1 ≡ false) (λ leaf on. greater-after side path b byte leaf.1 key on leads (omega (arith, less, ascend.0))) (leaves tree) (leaves-begin (path ++ b ∷ []) tree sound.0))
        (greater-branches (suc b) others sound.1 (omega (arith, less, ascend.0)) ascend.2)

    -- the bytes after this one are greater
    past-byte : (low : ℕ) (front : ChildMap H) (child : H) (back : ChildMap H) → IsAscendingFrom low (key_bytes (front ++ (byte, child) ∷ back)) → IsAscendingFrom (suc byte) (key_bytes back)
    past-byte low [] child back ascend = ascend.2
    past-byte low (x ∷ front) child back ascend = past-byte (suc x.0) front child back ascend.2

    -- so the branches before and after the byte lie on both sides
    both-branches : (before after : Branches H) (child : H) → AreSound path before → AreSound path after → IsAscendingFrom 0 (key_bytes (branch_roots before ++ (byte, child) ∷ branch_roots after)) → AreOn side key true (branch_leaves before) × AreOn side key false (branch_leaves after)
    both-branches before after child sound_before sound_after ascend = (
      lesser-branches 0 before child (branch_roots after) sound_before ascend,
      greater-branches (suc byte) after sound_after (omega arith) (past-byte 0 (branch_roots before) child (branch_roots after) ascend),
    )

  -- where the key leads to a part of a tree, the leaves left of it come before the key, and those right of it after
  pub around-part : (side : Side) (context : Context H) (part : Tree H) (key : List ℕ) → IsWellFormed (plug context part) → IsPrefixOf (path_to context) key → AreOn side key true (leaves_before context) × AreOn side key false (leaves_after context)
  around-part side Whole part key sound leads = (All-nil (λ leaf. is_before side key leaf.1 ≡ true), All-nil (λ leaf. is_before side key leaf.1 ≡ false))
  around-part side (Under above pointer prefix before byte after) part key sound leads =
      let front = path_to above ++ prefix in
      let node = sound-part above (Inner pointer prefix (join before (Branch byte part after))) sound in
      let parts = sound-split front before (Branch byte part after) node.2 in
      let ascend = subst (λ all. IsAscendingFrom 0 (key_bytes all)) (roots-join before (Branch byte part after)) node.1 in
      let both = both-branches side front key byte leads before after (root_of part) parts.0 parts.1.1 ascend in
      let outer = around-part side above (Inner pointer prefix (join before (Branch byte part after))) key sound (prefix-shorter (path_to above) prefix key (prefix-shorter front (byte ∷ []) key leads)) in (
        All-append (λ leaf. is_before side key leaf.1 ≡ true) (leaves_before above) (branch_leaves before) outer.0 both.0,
        All-append (λ leaf. is_before side key leaf.1 ≡ false) (branch_leaves after) (leaves_after above) both.1 outer.1,
      )

  -- where all leaves of the part lie on one side of the key, the end of them beside it is next to it
  pub end-next : (side : Side) (context : Context H) (part : Tree H) (key : List ℕ) (end : End) (pointer : H) → IsWellFormed (plug context part) → IsPrefixOf (path_to context) key → AreOn side key (is_last end) (leaves part) → IsAtEnd end (leaves part) pointer → IsBesideKey side key (leaves (plug context part)) end pointer
  end-next side context part key end pointer sound leads on_part at_end =
      let around = around-part side context part key sound leads in
      part-next side key (leaves (plug context part)) (leaves_before context) (leaves part) (leaves_after context) end pointer (leaves-plug context part) around.0 around.1 on_part at_end

  -- so a leaf to which the key leads is next to it
  pub leaf-next : (side : Side) (tree : Tree H) (key : List ℕ) (end : End) (pointer : H) (text : List ℕ) → IsWellFormed tree → LeadsToLeaf tree key pointer text → is_before side key text ≡ is_last end → IsBesideKey side key (leaves tree) end pointer
  leaf-next side tree key end pointer text sound at here =
      subst (λ whole. IsBesideKey side key (leaves whole) end pointer) at.whole
      (end-next side at.context (Leaf pointer text) key end pointer (subst IsWellFormed (sym at.whole) sound) at.leads
      (All-cons (λ leaf. is_before side key leaf.1 ≡ is_last end) (pointer, text) [] here (All-nil (λ leaf. is_before side key leaf.1 ≡ is_last end))) (one-leaf end))
    where
      one-leaf : (end : End) → IsAtEnd end ((pointer, text) ∷ []) pointer
      one-leaf First = (text, [], refl)
      one-leaf Last = (text, [], refl)

  -- and so where there is a place for a byte of the key between the branches of a node, is the leaf beside that place
  pub branch-next : (side : Side) (context : Context H) (pointer : H) (prefix : List ℕ) (branches : Branches H) (byte : ℕ) (key : List ℕ) (place : HasChildPlace (path_to context) prefix branches byte) (end : End) (leaf : H) → IsWellFormed (plug context (Inner pointer prefix branches)) → IsPrefixOf ((path_to context ++ prefix) ++ byte ∷ []) key
      → IsLeafBeside end (branch_leaves place.before) (branch_leaves place.after) leaf → IsBesideKey side key (leaves (plug context (Inner pointer prefix branches))) end leaf
  branch-next side context pointer prefix branches byte key place end leaf sound leads (text, beside) =
      let front = path_to context ++ prefix in
      let node = Inner pointer prefix branches in
      let around = around-part side context node key sound (prefix-shorter (path_to context) prefix key (prefix-shorter front (byte ∷ []) key leads)) in
      let sounds = sound-split front place.before place.after place.place.sound in
      let both = both-branches side front key byte leads place.before place.after pointer sounds.0 sounds.1 (place.place.ascending pointer) in
      let same : leaves node ≡ branch_leaves place.before ++ branch_leaves place.after = ap branch_leaves (sym place.same) ∙ leaves-join place.before place.after in
      gap-next side key (leaves (plug context node)) (leaves_before context ++ branch_leaves place.before) (branch_leaves place.after ++ leaves_after context) end leaf
      (leaves-parted context node place.before place.after same)
      (All-append (λ leaf. is_before side key leaf.1 ≡ true) (leaves_before context) (branch_leaves place.before) around.0 both.0)
      (All-append (λ leaf. is_before side key leaf.1 ≡ false) (branch_leaves place.after) (leaves_after context) both.1 around.1)
      (text, beside-wide end (leaves_before context) (branch_leaves place.before) (branch_leaves place.after) (leaves_after context) (leaf, text) beside)

module _ {K V : Type 0} {P : ℕ} (text : K → List ℕ) (arena : NodeArena K V P) where
  -- the place for a byte, as the arena has it
  abbrev pub byte-place : (pointer : OpaqueNodePtr K V P) (path prefix : List ℕ) (branches : Branches (OpaqueNodePtr K V P)) (byte : ℕ) (place : HasChildPlace path prefix branches byte) → StandsIn text arena (Inner pointer prefix branches) → IsSound path (Inner pointer prefix branches) → HasGapUnder text arena pointer byte
  byte-place pointer path prefix branches byte place stands sound =
      record {
        path = path;
        prefix = prefix;
        before = place.before;
        after = place.after;
        stands = subst (λ b. StandsIn text arena (Inner pointer prefix b)) (sym place.same) stands;
        sound = subst (λ b. IsSound path (Inner pointer prefix b)) (sym place.same) sound;
        sides = subst (λ b. (end : End) → pairs_on end (branch_roots b) byte ≡ branch_roots (branches_on end place.before place.after)) (sym place.same) place.sides;
      }

  module _ (tree : Tree (OpaqueNodePtr K V P)) (key : List ℕ) where
    -- a leaf to which the key leads is held
    pub leads-held : (pointer : OpaqueNodePtr K V P) (x : List ℕ) → StandsIn text arena tree → LeadsToLeaf tree key pointer x → held arena pointer ≢ Nothing
    leads-held pointer x stands at none =
        let (leaf, holds, has) = stands-part text arena arena at.context (Leaf pointer x) (subst (StandsIn text arena) (sym at.whole) stands) in
        let wrong : HeldLeaf leaf ≡ Nothing = sym holds ∙ none in absurd (cc)

    module _ (spot : Spot K V P) where
      -- the tree at the spot
      abbrev pub spot-in : StandsIn text arena tree → IsWellFormed tree → IsSpot tree key spot → IsSpotIn text arena tree key spot
      spot-in stands sound at = record { stands = stands; sound = sound; at = at }

      spot-next : (side : Side) (at : IsSpot tree key spot) (end : End) (leaf : OpaqueNodePtr K V P) → IsWellFormed tree → AreOn side key (is_last end) (leaves at.part) → IsAtEnd end (leaves at.part) leaf → IsBesideKey side key (leaves tree) end leaf
      spot-next side at end leaf sound on_part at_end =
          subst (λ whole. IsBesideKey side key (leaves whole) end leaf) at.whole (end-next side at.context at.part key end leaf (subst IsWellFormed (sym at.whole) sound) at.leads on_part at_end)

      -- where the key begins all texts there
      pub begins-next : (side : Side) (begins : BeginsAll tree key spot) (end : End) (leaf : OpaqueNodePtr K V P) → IsWellFormed tree → is_last end ≡ comes_before side Greater true → IsAtEnd end (leaves begins.at.part) leaf → IsBesideKey side key (leaves tree) end leaf
      begins-next side begins end leaf sound is =
          spot-next side begins.at end leaf sound
          (All-weaker (λ leaf. IsProperPrefixOf key leaf.1) (λ leaf. is_before side key leaf.1 ≡ is_last end) (λ leaf longer. begun-side side leaf.1 key longer ∙ sym is) (leaves begins.at.part) begins.begins)

      -- where the key differs from all of them
      pub differs-next : (side : Side) (mismatch : Mismatch) (parts : Parts tree key spot mismatch) (end : End) (leaf : OpaqueNodePtr K V P) → IsWellFormed tree → end ≡ (if nat_lt mismatch.byte mismatch.node_byte then First else Last) → IsAtEnd end (leaves parts.at.part) leaf → IsBesideKey side key (leaves tree) end leaf
      differs-next side mismatch parts end leaf sound is = spot-next side parts.at end leaf sound (by_order (cases_lt mismatch.byte mismatch.node_byte))
        where
          front : List ℕ
          front = take mismatch.index key

          in_key : IsPrefixOf (front ++ mismatch.byte ∷ []) key
          in_key = key-on key mismatch.index mismatch.byte parts.byte

          in_texts : All (λ leaf. IsPrefixOf (front ++ mismatch.node_byte ∷ []) leaf.1) (leaves parts.at.part)
          in_texts =
              let path = path_to parts.at.context in
              All-weaker (λ leaf. IsPrefixOf (reach path parts.at.part) leaf.1) (λ leaf. IsPrefixOf (front ++ mismatch.node_byte ∷ []) leaf.1) (λ leaf on. prefix-on (front ++ mismatch.node_byte ∷ []) (reach path parts.at.part) leaf.1 parts.node on) (leaves parts.at.part)
              (leaves-reach path parts.at.part (sound-part parts.at.context parts.at.part (subst IsWellFormed (sym parts.at.whole) sound)))

          by_order : (mismatch.byte < mismatch.node_byte) ⊎ (mismatch.node_byte ≤ mismatch.byte) → AreOn side key (is_last end) (leaves parts.at.part)
          by_order (inl less) =
              let first : end ≡ First = is ∙ ap (λ t. if t then First else Last) (lt-ltb mismatch.byte mismatch.node_byte less) in
              subst (λ e. AreOn side key (is_last e) (leaves parts.at.part)) (sym first)
              (All-weaker (λ leaf. IsPrefixOf (front ++ mismatch.node_byte ∷ []) leaf.1) (λ leaf. is_before side key leaf.1 ≡ false) (λ leaf on. greater-after side front mismatch.node_byte mismatch.byte leaf.1 key on in_key less) (leaves parts.at.part) in_texts)
          by_order (inr upto) =
              let last : end ≡ Last = is ∙ ap (λ t. if t then First else Last) (le-ltb mismatch.byte mismatch.node_byte upto) in
              let less : mismatch.node_byte < mismatch.byte = (let apart = parts.differ in omega (arith, upto, λ (same : mismatch.byte ≡ mismatch.node_byte). apart same)) in
              subst (λ e. AreOn side key (is_last e) (leaves parts.at.part)) (sym last)
              (All-weaker (λ leaf. IsPrefixOf (front ++ mismatch.node_byte ∷ []) leaf.1) (λ leaf. is_before side key leaf.1 ≡ true) (λ leaf on. lesser-before side front mismatch.node_byte mismatch.byte leaf.1 key on in_key less) (leaves parts.at.part) in_texts)

      -- where it lacks a child
      module _ (byte : ℕ) (fits : byte < 256) (stands : StandsIn text arena tree) (sound : IsWellFormed tree) (lacks : LacksChild tree key spot byte) where
        abbrev pub lacking : Tree (OpaqueNodePtr K V P)
        lacking = Inner spot.node lacks.prefix lacks.branches

        pub whole-is : plug lacks.at.context lacking ≡ tree
        whole-is = ap (plug lacks.at.context) (sym lacks.part) ∙ lacks.at.whole

        pub node-sound : IsSound (path_to lacks.at.context) lacking
        node-sound = sound-part lacks.at.context lacking (subst IsWellFormed (sym whole-is) sound)

        pub byte-fits : HasChildPlace (path_to lacks.at.context) lacks.prefix lacks.branches byte
        byte-fits = child-place (path_to lacks.at.context) lacks.prefix spot.node lacks.branches byte node-sound fits lacks.absent

        abbrev pub absent-place : HasGapUnder text arena spot.node byte
        absent-place = byte-place spot.node (path_to lacks.at.context) lacks.prefix lacks.branches byte byte-fits (stands-part text arena arena lacks.at.context lacking (subst (StandsIn text arena) (sym whole-is) stands)) node-sound

        pub absent-next : (side : Side) (end : End) (leaf : OpaqueNodePtr K V P) → IsLeafBeside end (branch_leaves absent-place.before) (branch_leaves absent-place.after) leaf → IsBesideKey side key (leaves tree) end leaf
        absent-next side end leaf beside =
            subst (λ whole. IsBesideKey side key (leaves whole) end leaf) whole-is
            (branch-next side lacks.at.context spot.node lacks.prefix lacks.branches byte key byte-fits end leaf (subst IsWellFormed (sym whole-is) sound) lacks.leads beside)

-- One subtree of a tree is exchanged for another.
use Rattle.art_steps.proofs.Names.{the_one, all_left, ◌≡◌, ◌≢◌, ◌∙◌, ℕ, suc, ◌<◌, ◌≤◌, nat_lt, List, [], ◌∷◌, ◌++◌, length, filter, Contains, refl, sym, ap, subst, inl, inr, arith, append_assoc, append-nil, le-ltb, lt-ltb, length-map, All-contains, Contains-append_left, Contains-append_right, Contains-append_cases, kind_for, ChildMap, IsAscendingFrom, key_bytes, with_child, OpaqueNodePtr, NodeArena, HeldInner, held, AreDistinct, NodeStands, StandsIn, AllStandIn, Tree, Leaf, Inner, Branches, NoBranch, Branch, leaves, branch_leaves, places, branch_places, branch_roots, root_of, IsSound, IsWellFormed, Context, Whole, Under, plug, path_to, leaves_before, leaves_after, KeepsAt, IsExchanged, join, HasSmallestKinds, InnerNode, node_with_child}
use Rattle.art_steps.proofs.SharedLemmas.BranchLemmas.{roots-join, leaves-join, places-join, bytes-join, sound-join, stand-join, stand-split, smallest_kinds-join, smallest_kinds-split, sound-split}
use Rattle.art_search.proofs.DistinctLists.{AreDistinct-split}

-- a child under a byte that is there already takes the place of the one before it
pub before-byte : {H : Type 0} (low : ℕ) (front : ChildMap H) (byte : ℕ) (child : H) (back : ChildMap H) → IsAscendingFrom low (key_bytes (front ++ (byte, child) ∷ back)) → low ≤ byte
before-byte low [] byte child back ascend = ascend.0
before-byte low (x ∷ front) byte child back ascend = omega (arith, ascend.0, before-byte (suc x.0) front byte child back ascend.2)

pub none-below : {H : Type 0} (low byte : ℕ) (back : ChildMap H) → byte < low → IsAscendingFrom low (key_bytes back) → filter (λ p. nat_lt p.0 byte) back ≡ []
none-below low byte [] below ascend = refl
none-below low byte (x ∷ back) below ascend = rw (le-ltb x.0 byte (omega (arith, below, ascend.0))) (none-below (suc x.0) byte back (omega (arith, below, ascend.0)) ascend.2)

pub all-above : {H : Type 0} (low byte : ℕ) (back : ChildMap H) → byte < low → IsAscendingFrom low (key_bytes back) → filter (λ p. nat_lt byte p.0) back ≡ back
all-above low byte [] below ascend = refl
all-above low byte (x ∷ back) below ascend = rw (lt-ltb byte x.0 (omega (arith, below, ascend.0))) (ap (λ rest. x ∷ rest) (all-above (suc x.0) byte back (omega (arith, below, ascend.0)) ascend.2))

replaced : {H : Type 0} (low : ℕ) (front : ChildMap H) (byte : ℕ) (child now : H) (back : ChildMap H) → IsAscendingFrom low (key_bytes (front ++ (byte, child) ∷ back)) → with_child (front ++ (byte, child) ∷ back) byte now ≡ front ++ (byte, now) ∷ back
replaced low [] byte child now back ascend =
    rw (le-ltb byte byte (omega arith), none-below (suc byte) byte back (omega arith) ascend.2, all-above (suc byte) byte back (omega arith) ascend.2) refl
replaced low (x ∷ front) byte child now back ascend =
    let above = before-byte (suc x.0) front byte child back ascend.2 in
    rw (lt-ltb x.0 byte (omega (arith, above)), le-ltb byte x.0 (omega (arith, above))) (ap (λ rest. x ∷ rest) (replaced (suc x.0) front byte child now back ascend.2))

-- the path of a place, where a path leads to the whole
place-path : (path above prefix rest : List ℕ) → path ++ ((above ++ prefix) ++ rest) ≡ ((path ++ above) ++ prefix) ++ rest
place-path path above prefix rest = sym (append_assoc path (above ++ prefix) rest) ∙ ap (λ front. front ++ rest) (sym (append_assoc path above prefix))

module _ {H : Type 0} where
  -- the leaves of the whole are those of the part between the others
  pub leaves-plug : (context : Context H) (tree : Tree H) → leaves (plug context tree) ≡ leaves_before context ++ (leaves tree ++ leaves_after context)
  leaves-plug Whole tree = sym (append-nil (leaves tree))
  leaves-plug (Under above pointer prefix before byte after) tree =
      leaves-plug above (Inner pointer prefix (join before (Branch byte tree after)))
      ∙ ap (λ z. leaves_before above ++ (z ++ leaves_after above)) (leaves-join before (Branch byte tree after))
      ∙ ap (λ z. leaves_before above ++ z) (append_assoc (branch_leaves before) (leaves tree ++ branch_leaves after) (leaves_after above) ∙ ap (λ z. branch_leaves before ++ z) (append_assoc (leaves tree) (branch_leaves after) (leaves_after above)))
      ∙ sym (append_assoc (leaves_before above) (branch_leaves before) (leaves tree ++ (branch_leaves after ++ leaves_after above)))

  bytes-same : (before : Branches H) (byte : ℕ) (old new : Tree H) (after : Branches H) → key_bytes (branch_roots (join before (Branch byte old after))) ≡ key_bytes (branch_roots (join before (Branch byte new after)))
  bytes-same before byte old new after = bytes-join before (Branch byte old after) ∙ sym (bytes-join before (Branch byte new after))

  pub count-same : (before : Branches H) (byte : ℕ) (old new : Tree H) (after : Branches H) → length (branch_roots (join before (Branch byte old after))) ≡ length (branch_roots (join before (Branch byte new after)))
  count-same before byte old new after =
      sym (length-map (branch_roots (join before (Branch byte old after))) (λ pair. pair.0)) ∙ ap length (bytes-same before byte old new after) ∙ length-map (branch_roots (join before (Branch byte new after))) (λ pair. pair.0)

  module _ (path : List ℕ) where
    -- a part of a sound tree is sound under its path
    pub sound-under : (context : Context H) (tree : Tree H) → IsSound path (plug context tree) → IsSound (path ++ path_to context) tree
    sound-under Whole tree sound = subst (λ p. IsSound p tree) (sym (append-nil path)) sound
    sound-under (Under above pointer prefix before byte after) tree sound =
        let node = sound-under above (Inner pointer prefix (join before (Branch byte tree after))) sound in
        subst (λ p. IsSound p tree) (sym (place-path path (path_to above) prefix (byte ∷ []))) (sound-split ((path ++ path_to above) ++ prefix) before (Branch byte tree after) node.2).1.0

    -- and what is sound under that path may take its place
    pub sound-exchanged : (context : Context H) (old new : Tree H) → IsSound path (plug context old) → IsSound (path ++ path_to context) new → IsSound path (plug context new)
    sound-exchanged Whole old new sound new_sound = subst (λ p. IsSound p new) (append-nil path) new_sound
    sound-exchanged (Under above pointer prefix before byte after) old new sound new_sound =
        let node = sound-under above (Inner pointer prefix (join before (Branch byte old after))) sound in
        let parts = sound-split ((path ++ path_to above) ++ prefix) before (Branch byte old after) node.2 in
        sound-exchanged above (Inner pointer prefix (join before (Branch byte old after))) (Inner pointer prefix (join before (Branch byte new after))) sound (
          omega (arith, node.0, count-same before byte old new after),
          subst (IsAscendingFrom 0) (bytes-same before byte old new after) node.1,
          sound-join ((path ++ path_to above) ++ prefix) before (Branch byte new after) parts.0 (subst (λ p. IsSound p new) (place-path path (path_to above) prefix (byte ∷ [])) new_sound, parts.1.1),
        )

  -- the same for a well-formed tree
  pub sound-part : (context : Context H) (tree : Tree H) → IsWellFormed (plug context tree) → IsSound (path_to context) tree
  sound-part = sound-under []

  pub sound-whole : (context : Context H) (old new : Tree H) → IsWellFormed (plug context old) → IsSound (path_to context) new → IsWellFormed (plug context new)
  sound-whole = sound-exchanged []

module _ {H : Type 0} where
  -- the pointers of all that is around the place
  abbrev pub places_around : Context H → List H
  places_around Whole = []
  places_around (Under above pointer prefix before byte after) = pointer ∷ (branch_places before ++ (branch_places after ++ places_around above))

  pub places-node : (pointer : H) (prefix : List ℕ) (before : Branches H) (byte : ℕ) (tree : Tree H) (after : Branches H) → places (Inner pointer prefix (join before (Branch byte tree after))) ≡ pointer ∷ (branch_places before ++ (places tree ++ branch_places after))
  places-node pointer prefix before byte tree after = ap (λ rest. pointer ∷ rest) (places-join before (Branch byte tree after))

  pub distinct-part : (context : Context H) (tree : Tree H) → AreDistinct (places (plug context tree)) → AreDistinct (places tree)
  distinct-part Whole tree distinct = distinct
  distinct-part (Under above pointer prefix before byte after) tree distinct =
      let node = subst AreDistinct (places-node pointer prefix before byte tree after) (distinct-part above (Inner pointer prefix (join before (Branch byte tree after))) distinct) in
      (AreDistinct-split (places tree) (branch_places after) (AreDistinct-split (branch_places before) (places tree ++ branch_places after) node.1).1).0

  pub in-part : (context : Context H) (tree : Tree H) (q : H) → Contains (places tree) q → Contains (places (plug context tree)) q
  in-part Whole tree q inside = inside
  in-part (Under above pointer prefix before byte after) tree q inside =
      in-part above (Inner pointer prefix (join before (Branch byte tree after))) q (subst (λ all. Contains all q) (sym (places-node pointer prefix before byte tree after))
      (Contains-append_right (pointer ∷ branch_places before) (places tree ++ branch_places after) q (Contains-append_left (places tree) (branch_places after) q inside)))

  -- what is around the place is in the whole tree and not in the part
  pub record IsAround (context : Context H) (tree : Tree H) (q : H) : Type 0 where
    pub inside : Contains (places (plug context tree)) q
    pub outside : Contains (places tree) q → ⊥

  pub around : (context : Context H) (tree : Tree H) (q : H) → AreDistinct (places (plug context tree)) → Contains (places_around context) q → IsAround context tree q
  around Whole tree q distinct (k, inside, is) = absurd (omega (arith, inside))
  around (Under above pointer prefix before byte after) tree q distinct inside =
      let whole = Inner pointer prefix (join before (Branch byte tree after)) in
      let same = places-node pointer prefix before byte tree after in
      let apart = subst AreDistinct same (distinct-part above whole distinct) in
      let later = AreDistinct-split (branch_places before) (places tree ++ branch_places after) apart.1 in
      let last = AreDistinct-split (places tree) (branch_places after) later.1 in
      elim (Contains-append_cases (pointer ∷ []) (branch_places before ++ (branch_places after ++ places_around above)) q inside) [
        | inl here ↦ record {
          inside = in-part above whole q (subst (λ all. Contains all q) (sym same) (Contains-append_left (pointer ∷ []) (branch_places before ++ (places tree ++ branch_places after)) q here));
          outside = λ part. All-contains (λ other. other ≢ pointer) (branch_places before ++ (places tree ++ branch_places after)) q apart.0
              (Contains-append_right (branch_places before) (places tree ++ branch_places after) q (Contains-append_left (places tree) (branch_places after) q part)) (sym (the_one pointer q here));
        }
        | inr past ↦ elim (Contains-append_cases (branch_places before) (branch_places after ++ places_around above) q past) [
          | inl left ↦ record {
            inside = in-part above whole q (subst (λ all. Contains all q) (sym same) (Contains-append_left (pointer ∷ branch_places before) (places tree ++ branch_places after) q (Contains-append_right (pointer ∷ []) (branch_places before) q left)));
            outside = λ part. later.2 q left (Contains-append_left (places tree) (branch_places after) q part);
          }
          | inr right ↦ elim (Contains-append_cases (branch_places after) (places_around above) q right) [
            | inl after_it ↦ record {
              inside = in-part above whole q (subst (λ all. Contains all q) (sym same) (Contains-append_right (pointer ∷ branch_places before) (places tree ++ branch_places after) q (Contains-append_right (places tree) (branch_places after) q after_it)));
              outside = λ part. last.2 q part after_it;
            }
            | inr higher ↦
                let up = around above whole q distinct higher in
                record {
                  inside = up.inside;
                  outside = λ part. up.outside (subst (λ all. Contains all q) (sym same) (Contains-append_right (pointer ∷ branch_places before) (places tree ++ branch_places after) q (Contains-append_left (places tree) (branch_places after) q part)));
                }
          ]
        ]
      ]

module _ {K V : Type 0} {P : ℕ} where
  -- where the whole has the smallest kinds, it still has them with another part that has them
  pub smallest_kinds-part : (context : Context (OpaqueNodePtr K V P)) (tree : Tree (OpaqueNodePtr K V P)) → HasSmallestKinds (plug context tree) → HasSmallestKinds tree
  smallest_kinds-part Whole tree smallest_kinds = smallest_kinds
  smallest_kinds-part (Under above pointer prefix before byte after) tree smallest_kinds =
      (smallest_kinds-split before (Branch byte tree after) (smallest_kinds-part above (Inner pointer prefix (join before (Branch byte tree after))) smallest_kinds).1).1.0

  pub smallest_kinds-whole : (context : Context (OpaqueNodePtr K V P)) (old new : Tree (OpaqueNodePtr K V P)) → HasSmallestKinds (plug context old) → HasSmallestKinds new → HasSmallestKinds (plug context new)
  smallest_kinds-whole Whole old new smallest_kinds new_smallest_kinds = new_smallest_kinds
  smallest_kinds-whole (Under above pointer prefix before byte after) old new smallest_kinds new_smallest_kinds =
      let node = smallest_kinds-part above (Inner pointer prefix (join before (Branch byte old after))) smallest_kinds in
      let parts = smallest_kinds-split before (Branch byte old after) node.1 in
      smallest_kinds-whole above (Inner pointer prefix (join before (Branch byte old after))) (Inner pointer prefix (join before (Branch byte new after))) smallest_kinds
      (node.0 ∙ ap kind_for (count-same before byte old new after), smallest_kinds-join before (Branch byte new after) parts.0 (new_smallest_kinds, parts.1.1))

module _ {K V : Type 0} {P : ℕ} (text : K → List ℕ) (old new : NodeArena K V P) where
  mutual
    -- a tree still stands where each of its pointers holds what it held, but for links
    pub kept-tree : (tree : Tree (OpaqueNodePtr K V P)) → StandsIn text old tree → ((q : OpaqueNodePtr K V P) → Contains (places tree) q → KeepsAt old new q) → StandsIn text new tree
    kept-tree (Leaf pointer x) (leaf, holds, has) keeps =
        let now = (keeps pointer (0, omega arith, refl)).leaf leaf holds in (now.0, now.1, ap text now.2 ∙ has)
    kept-tree (Inner pointer prefix branches) (node, holds, shows, stand) keeps =
        (node, (keeps pointer (0, omega arith, refl)).inner node holds, shows, kept-branches branches stand (λ q inside. keeps q (Contains-append_right (pointer ∷ []) (branch_places branches) q inside)))

    pub kept-branches : (branches : Branches (OpaqueNodePtr K V P)) → AllStandIn text old branches → ((q : OpaqueNodePtr K V P) → Contains (branch_places branches) q → KeepsAt old new q) → AllStandIn text new branches
    kept-branches NoBranch stand keeps = tt
    kept-branches (Branch byte tree others) (stands, stand) keeps =
        (kept-tree tree stands (λ q inside. keeps q (Contains-append_left (places tree) (branch_places others) q inside)), kept-branches others stand (λ q inside. keeps q (Contains-append_right (places tree) (branch_places others) q inside)))

  pub stands-part : (context : Context (OpaqueNodePtr K V P)) (tree : Tree (OpaqueNodePtr K V P)) → StandsIn text old (plug context tree) → StandsIn text old tree
  stands-part Whole tree stands = stands
  stands-part (Under above pointer prefix before byte after) tree stands =
      (stand-split text old before (Branch byte tree after) (stands-part above (Inner pointer prefix (join before (Branch byte tree after))) stands).3).1.0

  -- the node above the place with the new part below it
  node-stands : (pointer : OpaqueNodePtr K V P) (prefix : List ℕ) (before : Branches (OpaqueNodePtr K V P)) (byte : ℕ) (part now : Tree (OpaqueNodePtr K V P)) (after : Branches (OpaqueNodePtr K V P)) → StandsIn text old (Inner pointer prefix (join before (Branch byte part after))) → StandsIn text new now
      → ((node : InnerNode (OpaqueNodePtr K V P)) → held old pointer ≡ HeldInner node → NodeStands P node prefix (join before (Branch byte part after)) → (renewed : InnerNode (OpaqueNodePtr K V P)) × (held new pointer ≡ HeldInner renewed) × NodeStands P renewed prefix (join before (Branch byte now after)))
      → ((q : OpaqueNodePtr K V P) → Contains (branch_places before) q → KeepsAt old new q) → ((q : OpaqueNodePtr K V P) → Contains (branch_places after) q → KeepsAt old new q) → StandsIn text new (Inner pointer prefix (join before (Branch byte now after)))
  node-stands pointer prefix before byte part now after (node, holds, shows, stand) stands renew left right =
      let fresh = renew node holds shows in
      let parts = stand-split text old before (Branch byte part after) stand in
      (fresh.0, fresh.1, fresh.2, stand-join text new before (Branch byte now after) (kept-branches before parts.0 left) (stands, kept-branches after parts.1.1 right))

  -- a part with the same root may be exchanged where all around it is kept
  stands-same-root : (context : Context (OpaqueNodePtr K V P)) (part now : Tree (OpaqueNodePtr K V P)) → root_of now ≡ root_of part → StandsIn text old (plug context part) → StandsIn text new now
      → ((q : OpaqueNodePtr K V P) → Contains (places_around context) q → KeepsAt old new q) → StandsIn text new (plug context now)
  stands-same-root Whole part now same stood stands keeps = stands
  stands-same-root (Under above pointer prefix before byte after) part now same stood stands keeps =
      stands-same-root above (Inner pointer prefix (join before (Branch byte part after))) (Inner pointer prefix (join before (Branch byte now after))) refl stood
      (node-stands pointer prefix before byte part now after (stands-part above (Inner pointer prefix (join before (Branch byte part after))) stood) stands
      (λ node holds shows. (
        node,
        (keeps pointer (0, omega arith, refl)).inner node holds,
        record {
          prefix_len = shows.prefix_len;
          stored = shows.stored;
          children = shows.children ∙ roots-join before (Branch byte part after) ∙ ap (λ root. branch_roots before ++ (byte, root) ∷ branch_roots after) (sym same) ∙ sym (roots-join before (Branch byte now after));
        },
      ))
      (λ q inside. keeps q (Contains-append_right (pointer ∷ []) (branch_places before ++ (branch_places after ++ places_around above)) q (Contains-append_left (branch_places before) (branch_places after ++ places_around above) q inside)))
      (λ q inside. keeps q (Contains-append_right (pointer ∷ branch_places before) (branch_places after ++ places_around above) q (Contains-append_left (branch_places after) (places_around above) q inside))))
      (λ q inside. keeps q (Contains-append_right (pointer ∷ branch_places before) (branch_places after ++ places_around above) q (Contains-append_right (branch_places after) (places_around above) q inside)))

  -- and one with another root where the node above has taken it up
  pub stands-whole : (path : List ℕ) (context : Context (OpaqueNodePtr K V P)) (part now : Tree (OpaqueNodePtr K V P)) → IsSound path (plug context part) → AreDistinct (places (plug context part)) → IsExchanged old new text context part now → StandsIn text new (plug context now)
  stands-whole path Whole part now sound distinct exchanged = exchanged.stands
  stands-whole path (Under above pointer prefix before byte after) part now sound distinct exchanged =
      let whole = Inner pointer prefix (join before (Branch byte part after)) in
      let same = places-node pointer prefix before byte part after in
      let apart = subst AreDistinct same (distinct-part above whole distinct) in
      let ascend = (sound-under path above whole sound).1 in
      let keeps : (q : OpaqueNodePtr K V P) → Contains (places_around (Under above pointer prefix before byte after)) q → q ≢ pointer → KeepsAt old new q =
      λ q inside differ. let is = around (Under above pointer prefix before byte after) part q distinct inside in exchanged.others q is.inside is.outside (λ some. differ (sym (cc))) in
      let beside : (q : OpaqueNodePtr K V P) → Contains (branch_places before ++ (places part ++ branch_places after)) q → q ≢ pointer = λ q inside. All-contains (λ other. other ≢ pointer) (branch_places before ++ (places part ++ branch_places after)) q apart.0 inside in
      stands-same-root above whole (Inner pointer prefix (join before (Branch byte now after))) refl exchanged.stood
      (node-stands pointer prefix before byte part now after (stands-part above whole exchanged.stood) exchanged.stands
      (λ node holds shows. (
        node_with_child node byte (root_of now),
        exchanged.adopted node holds,
        record {
          prefix_len = shows.prefix_len;
          stored = shows.stored;
          children = ap (λ children. with_child children byte (root_of now)) (shows.children ∙ roots-join before (Branch byte part after))
              ∙ replaced 0 (branch_roots before) byte (root_of part) (root_of now) (branch_roots after) (subst (λ roots. IsAscendingFrom 0 (key_bytes roots)) (roots-join before (Branch byte part after)) ascend)
              ∙ sym (roots-join before (Branch byte now after));
        },
      ))
      (λ q inside. keeps q (Contains-append_right (pointer ∷ []) (branch_places before ++ (branch_places after ++ places_around above)) q (Contains-append_left (branch_places before) (branch_places after ++ places_around above) q inside))
      (beside q (Contains-append_left (branch_places before) (places part ++ branch_places after) q inside)))
      (λ q inside. keeps q (Contains-append_right (pointer ∷ branch_places before) (branch_places after ++ places_around above) q (Contains-append_left (branch_places after) (places_around above) q inside))
      (beside q (Contains-append_right (branch_places before) (places part ++ branch_places after) q (Contains-append_right (places part) (branch_places after) q inside)))))
      (λ q inside. keeps q (Contains-append_right (pointer ∷ branch_places before) (branch_places after ++ places_around above) q (Contains-append_right (branch_places after) (places_around above) q inside))
      (λ is. (around above whole q distinct inside).outside (0, omega arith, sym is)))

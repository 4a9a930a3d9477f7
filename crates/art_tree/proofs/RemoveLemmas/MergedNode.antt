-- Removal: a leaf of a node of two children, whose other child takes the node's place.
use Rattle.art_tree.proofs.Names.{◌≡◌, ◌≢◌, ◌⊎◌, ◌∙◌, ℕ, ◌+◌, ◌<◌, ◌≤◌, ◌^◌, List, [], ◌∷◌, ◌++◌, length, map, take, All, Contains, Option, Some, refl, sym, ap, subst, inl, inr, arith, map-append, All-append, All-contains, All-tail, Contains-append_right, same_Some, StandsFor, capped, first_pair, without_child, header_of, InnerNode, node_kind, opaque_key, OpaqueNodePtr, LeafNode, NodeArena, Held, HeldInner, HeldLeaf, Nothing, held, Changes, SameNodes, AreDistinct, NodeStands, StandsIn, AllStandIn, Tree, Leaf, Inner, Branches, Branch, root_of, branch_leaves, texts, places, branch_places, branch_roots, AreSound, path_to, join, HasParents, IsTaken, StaysAt, node_with_prefix, HasChildUnder, IsChildOrRoot, HasSmallestKinds, HaveSmallestKinds, above, IsRemoved, leaf_kind, one-inner, all_left, all_right, LeafKind, places-apart}
use Rattle.art_steps.proofs.SharedLemmas.ChangedTree.{held-on, place-held, root-place}
use Rattle.art_tree.proofs.RemoveLemmas.RemovedLeaf.{AreRemovalSteps, HasDropped, has-child_under, leaf-removed, inside-kept, last-inside, leaves-kept, top-last}
use Rattle.art_tree.proofs.RemoveLemmas.RemainingTree.{HasOneLeft, dropped-roots, joined-short, joined-sound, leaves-joined, left-smallest_kinds, left-sound, one-leaves, one-left, one-places, places-joined, root-joined, smallest_kinds-joined, with_upper}
use Rattle.art_steps.proofs.SharedLemmas.ExchangedSubtree.{kept-branches}
use Rattle.art_steps.proofs.SharedLemmas.ExchangedTree.{texts-part}
use Rattle.art_tree.proofs.RemoveLemmas.LeafParent.{IsOther, LeafPlace, is-other, part_there, place-cases}
use Rattle.art_steps.proofs.InsertLemmas.NodeLemmas.{some-inner}
use Rattle.art_steps.proofs.InsertLemmas.SubtreeLemmas.{leaves-taken}

-- a node stands for the prefix that it has
stands-for : {H : Type 0} (room : ℕ) (node : InnerNode H) (prefix : List ℕ) (branches : Branches H) → NodeStands room node prefix branches → StandsFor room (header_of node) prefix
stands-for room node prefix branches shows = λ i. record { count = length node.children; prefix_len = shows.prefix_len i; stored = shows.stored i }

module _ {K V : Type 0} {P : ℕ} {text : K → List ℕ} {old : NodeArena K V P} {root leaf parent : OpaqueNodePtr K V P} {byte : ℕ} {higher : Option (OpaqueNodePtr K V P × ℕ)} {tree : Tree (OpaqueNodePtr K V P)} {parents : HasParents tree leaf parent byte higher} (place : LeafPlace text old root parents) where
  abbrev leaf_there : Tree (OpaqueNodePtr K V P)
  leaf_there = Leaf leaf parents.text

  -- what is true of each text of the node is so of each that is left
  texts-left : (Q : List ℕ → Type 0) → All Q (texts (part_there parents)) → All Q (map (λ l. l.1) (branch_leaves parents.before ++ branch_leaves parents.after))
  texts-left Q each =
      let of : List (OpaqueNodePtr K V P × List ℕ) → List (List ℕ) = map (λ l. l.1) in
      let lefts = branch_leaves parents.before in
      let rights = branch_leaves parents.after in
      let all = subst (All Q) (ap of (leaves-taken parents.prefix parent parents.before byte leaf parents.text parents.after) ∙ map-append (λ l. l.1) lefts ((leaf, parents.text) ∷ rights)) each in
      subst (All Q) (sym (map-append (λ l. l.1) lefts rights)) (All-append Q (of lefts) (of rights) (all_left Q (of lefts) (parents.text ∷ of rights) all) (All-tail Q parents.text (of rights) (all_right Q (of lefts) (parents.text ∷ of rights) all)))

  module _ (two : (node : InnerNode (OpaqueNodePtr K V P)) → held old parent ≡ HeldInner node → length node.children ≡ 2) where
    -- one branch is left
    one-there : HasOneLeft parents.before byte leaf_there parents.after
    one-there = one-left parents.before byte leaf_there parents.after place.sound.1 (omega (arith, two place.node place.is_held, place.count))

    abbrev only_there : Tree (OpaqueNodePtr K V P)
    only_there = one-there.only

    only-stands : StandsIn text old only_there
    only-stands = (subst (AllStandIn text old) one-there.is place.others_stand).0

    only-other : (q : OpaqueNodePtr K V P) → Contains (places only_there) q → IsOther parents q
    only-other q inside = is-other parents place.distinct q (subst (λ all. Contains all q) (sym (one-places parents.before parents.after one-there.other only_there one-there.is)) inside)

    only-distinct : AreDistinct (places only_there)
    only-distinct = places-apart text old ((path_to parents.upper ++ parents.prefix) ++ one-there.other ∷ []) only_there only-stands (subst (AreSound (path_to parents.upper ++ parents.prefix)) one-there.is (left-sound parents.before byte leaf_there parents.after (path_to parents.upper) parents.prefix parent place.sound)).0

    -- the arena once the leaf is gone
    module _ {without : NodeArena K V P} {entry : K × V} (taken : IsTaken old without leaf entry) where
      parent-is : held without parent ≡ HeldInner place.node
      parent-is = (taken.others parent place.apart).keeps.inner place.node place.is_held

      pub parent-held : held without parent ≢ Nothing
      parent-held = some-inner (held without parent) place.node parent-is

      pub parent-two : (node : InnerNode (OpaqueNodePtr K V P)) → held without parent ≡ HeldInner node → 2 ≤ length node.children
      parent-two node is =
          let same = one-inner (held without parent) place.node node parent-is is in
          omega (arith, two place.node place.is_held, ap (λ n. length n.children) same)

      -- the child that is left is the root of the one branch
      module _ (other : ℕ) (child : OpaqueNodePtr K V P) (answer : (node : InnerNode (OpaqueNodePtr K V P)) → held without parent ≡ HeldInner node → first_pair (without_child node.children byte) ≡ Some (other, child)) where
        found-is : ◌≡◌ {A = ℕ × OpaqueNodePtr K V P} (one-there.other, root_of only_there) (other, child)
        found-is =
            same_Some (one-there.other, root_of only_there) (other, child)
            (sym (ap first_pair (ap (λ all. without_child all byte) place.shows.children ∙ dropped-roots parents.before byte leaf_there parents.after place.sound.1 ∙ ap branch_roots one-there.is)) ∙ answer place.node parent-is)

        other-is : one-there.other ≡ other
        other-is = ap (λ pair. pair.0) found-is

        child-is : root_of only_there ≡ child
        child-is = ap (λ pair. pair.1) found-is

        child-other : IsOther parents child
        child-other = subst (IsOther parents) child-is (only-other (root_of only_there) (root-place only_there))

        child-was : held old child ≢ Nothing
        child-was = subst (λ p. held old p ≢ Nothing) child-is (place-held text old only_there only-stands (root_of only_there) (root-place only_there))

        pub child-held : held without child ≢ Nothing
        child-held = held-on old without child (taken.others child child-other.not_leaf) child-was

        -- what the child is, in the tree and in the arena
        record IsLower (node : InnerNode (OpaqueNodePtr K V P)) : Type 0 where
          pub prefix : List ℕ
          pub branches : Branches (OpaqueNodePtr K V P)
          pub part : only_there ≡ Inner child prefix branches
          pub shows : NodeStands P node prefix branches

        lower-there : (node : InnerNode (OpaqueNodePtr K V P)) → held without child ≡ HeldInner node → IsLower node
        lower-there node is = by_part only_there refl only-stands child-is
          where
            keeps : StaysAt old without child
            keeps = taken.others child child-other.not_leaf

            by_part : (part : Tree (OpaqueNodePtr K V P)) → only_there ≡ part → StandsIn text old part → root_of part ≡ child → IsLower node
            by_part (Leaf pointer x) same (l, holds, has) root_is =
                let now = keeps.keeps.leaf l (ap (held old) (sym root_is) ∙ holds) in
                let wrong : HeldLeaf now.0 ≡ HeldInner node = sym now.1 ∙ is in absurd (cc)
            by_part (Inner pointer prefix branches) same (own, holds, shows, stand) root_is =
                let one = one-inner (held without child) own node (keeps.keeps.inner own (ap (held old) (sym root_is) ∙ holds)) is in
                record {
                  prefix = prefix;
                  branches = branches;
                  part = same ∙ ap (λ p. Inner p prefix branches) root_is;
                  shows = subst (λ n. NodeStands P n prefix branches) one shows;
                }

        -- a prefix of the texts that are left is short
        pub short-there : (upper lower : InnerNode (OpaqueNodePtr K V P)) → held without parent ≡ HeldInner upper → held without child ≡ HeldInner lower → upper.prefix_len + (1 + lower.prefix_len) < 2 ^ 32
        short-there upper lower above_is below_is =
            let low = lower-there lower below_is in
            let same = one-inner (held without parent) place.node upper parent-is above_is in
            let short = texts-part (λ x. length x < 2 ^ 32) parents.upper (part_there parents) place.alone.short in
            let each : All (λ x. length x < 2 ^ 32) (texts only_there) = subst (λ all. All (λ x. length x < 2 ^ 32) (map (λ l. l.1) all)) (one-leaves parents.before parents.after one-there.other only_there one-there.is) (texts-left (λ x. length x < 2 ^ 32) short) in
            let fits = joined-short parents.before byte leaf_there parents.after (path_to parents.upper) parents.prefix parent place.sound one-there.other only_there one-there.is (λ x inside. All-contains (λ y. length y < 2 ^ 32) (texts only_there) x each inside) child low.prefix low.branches low.part in
            omega (arith, fits, place.shows.prefix_len, low.shows.prefix_len, ap (λ n. n.prefix_len) same)

        -- the arena once the child has the longer prefix
        module _ (joined : NodeArena K V P) (leaf_same : node_kind child ≡ LeafKind → SameNodes without joined)
            (joins : (upper lower : InnerNode (OpaqueNodePtr K V P)) (front back : List ℕ) → held without parent ≡ HeldInner upper → held without child ≡ HeldInner lower → StandsFor P (header_of upper) front → StandsFor P (header_of lower) back → Changes without joined child (HeldInner (node_with_prefix P lower (front ++ other ∷ back)))) where
          record IsJoined : Type 0 where
            pub others : (p : OpaqueNodePtr K V P) → p ≢ child → held joined p ≡ held without p
            pub same_leaf : (l : LeafNode K V P) → held old child ≡ HeldLeaf l → held joined child ≡ held without child
            pub inner : (p : OpaqueNodePtr K V P) (prefix : List ℕ) (branches : Branches (OpaqueNodePtr K V P)) → only_there ≡ Inner p prefix branches → (node : InnerNode (OpaqueNodePtr K V P)) × (held joined child ≡ HeldInner node) × NodeStands P node (parents.prefix ++ one-there.other ∷ prefix) branches

          -- a leaf is as it was, and an inner node has the node's prefix and the byte before its own prefix
          is-joined : IsJoined
          is-joined = by_held (held without child) refl
            where
              keeps : StaysAt old without child
              keeps = taken.others child child-other.not_leaf

              by_held : (h : Held (OpaqueNodePtr K V P) (LeafNode K V P)) → held without child ≡ h → IsJoined
              by_held Nothing is = absurd (child-held is)
              by_held (HeldLeaf l) is =
                  let same = leaf_same (leaf_kind without (node_kind child) (opaque_key child) l is) in
                  record {
                    others = λ p differ. same p;
                    same_leaf = λ was was_is. same child;
                    inner = λ p prefix branches part.
                        let stands : StandsIn text old (Inner p prefix branches) = subst (StandsIn text old) part only-stands in
                        let root_is : p ≡ child = sym (ap root_of part) ∙ child-is in
                        let wrong : HeldLeaf l ≡ HeldInner stands.0 = sym is ∙ keeps.keeps.inner stands.0 (ap (held old) (sym root_is) ∙ stands.1) in absurd (cc);
                  }
              by_held (HeldInner node) is =
                  let low = lower-there node is in
                  let changes = joins place.node node parents.prefix low.prefix parent-is is (stands-for P place.node parents.prefix (join parents.before (Branch byte leaf_there parents.after)) place.shows) (stands-for P node low.prefix low.branches low.shows) in
                  record {
                    others = changes.others;
                    same_leaf = λ was was_is. let now = keeps.keeps.leaf was was_is in let wrong : HeldLeaf now.0 ≡ HeldInner node = sym now.1 ∙ is in absurd (cc);
                    inner = λ p prefix branches part.
                        let both : Inner child low.prefix low.branches ≡ Inner p prefix branches = sym low.part ∙ part in
                        let prefix_is : low.prefix ≡ prefix = cc in
                        let branches_are : low.branches ≡ branches = cc in
                        let front_is : parents.prefix ++ other ∷ low.prefix ≡ parents.prefix ++ one-there.other ∷ prefix = ap (λ rest. parents.prefix ++ other ∷ rest) prefix_is ∙ ap (λ o. parents.prefix ++ o ∷ prefix) (sym other-is) in (
                          node_with_prefix P node (parents.prefix ++ other ∷ low.prefix),
                          changes.changed,
                          record {
                            prefix_len = ap length front_is;
                            stored = ap (λ front. take (capped P (length front)) front) front_is;
                            children = low.shows.children ∙ ap branch_roots branches_are;
                          },
                        );
                  }

          parent-same : held joined parent ≡ held without parent
          parent-same = is-joined.others parent (λ same. child-other.not_parent (sym same))

          pub parent-joined : held joined parent ≢ Nothing
          parent-joined none = parent-held (sym parent-same ∙ none)

          -- the arena after the node is deallocated
          module _ (new : NodeArena K V P) (given : Changes joined new parent Nothing) where
            two-steps : AreRemovalSteps text old without new parents.upper (part_there parents) root leaf child
            two-steps = record {
              stood = place.alone.is_tree.stands;
              sound = place.alone.is_tree.sound;
              was_root = place.alone.is_tree.at_root;
              distinct = place.distinct;
              inside = place.inside;
              gone = taken.gone;
              stays = taken.others;
              other = child-other.not_leaf;
              top_was = inl child-other.inside;
              top_leaf = λ l is. given.others child child-other.not_parent ∙ is-joined.same_leaf l is;
              node_inner = place.no_leaf;
              same = λ p not_top not_node. given.others p not_node ∙ is-joined.others p not_top;
            }

            pub two-has_child : HasChildUnder new higher parent
            two-has_child = subst (λ above. HasChildUnder new above parent) parents.parent_is (has-child_under text old without new parents.upper (part_there parents) root leaf child two-steps)

            module _ (last : NodeArena K V P) (root_now : OpaqueNodePtr K V P) (child_or_root : IsChildOrRoot new last higher child root root_now) where
              child_or_root-there : IsChildOrRoot new last (above parents.upper) child root root_now
              child_or_root-there = subst (λ parent. IsChildOrRoot new last parent child root root_now) (sym parents.parent_is) child_or_root

              abbrev now_there : Tree (OpaqueNodePtr K V P)
              now_there = with_upper parents.prefix one-there.other only_there

              -- the child stands in the node's place
              now-stands : StandsIn text last now_there
              now-stands = by_part only_there refl only-stands
                where
                  by_part : (part : Tree (OpaqueNodePtr K V P)) → only_there ≡ part → StandsIn text old part → StandsIn text last (with_upper parents.prefix one-there.other part)
                  by_part (Leaf pointer x) same (l, holds, has) =
                      let is_other = subst (IsOther parents) (ap root_of same) (only-other (root_of only_there) (root-place only_there)) in
                      let now = (leaves-kept text old without new parents.upper (part_there parents) root leaf child two-steps last root_now child_or_root-there pointer l holds is_other.not_leaf).leaf l holds in
                      (now.0, now.1, ap text now.2 ∙ has)
                  by_part (Inner pointer prefix branches) same (own, holds, shows, stand) =
                      let root_is : pointer ≡ child = sym (ap root_of same) ∙ child-is in
                      let now = is-joined.inner pointer prefix branches same in
                      let apart : All (λ q. q ≢ pointer) (branch_places branches) = (subst (λ t. AreDistinct (places t)) same only-distinct).0 in (
                        now.0,
                        ap (held last) root_is ∙ top-last text old without new parents.upper (part_there parents) root leaf child two-steps last root_now child_or_root-there ∙ given.others child child-other.not_parent ∙ now.1,
                        now.2,
                        kept-branches text old last branches stand (λ q below.
                            let is_other = only-other q (subst (λ t. Contains (places t) q) (sym same) (Contains-append_right (pointer ∷ []) (branch_places branches) q below)) in
                            inside-kept text old without new parents.upper (part_there parents) root leaf child two-steps last root_now child_or_root-there q is_other.inside is_other.not_leaf
                            (λ at_top. All-contains (λ p. p ≢ pointer) (branch_places branches) q apart below (at_top ∙ sym root_is))
                            is_other.not_parent),
                      )

              now-smallest_kinds : HasSmallestKinds now_there
              now-smallest_kinds = smallest_kinds-joined parents.prefix one-there.other only_there (subst HaveSmallestKinds one-there.is (left-smallest_kinds parents.before byte leaf_there parents.after place.smallest_kinds.1)).0

              -- what was in the node is there still or is gone
              now-freed : (p : OpaqueNodePtr K V P) → Contains (places (part_there parents)) p → Contains (places now_there) p ⊎ (held last p ≡ Nothing)
              now-freed p inside =
                  let last_is = last-inside text old without new parents.upper (part_there parents) root leaf child two-steps last root_now child_or_root-there p inside in
                  elim (place-cases parents p inside) [
                    | inl at ↦ inr (last_is ∙ ap (held new) at ∙ given.changed)
                    | inr rest ↦ elim rest [
                      | inl own ↦ inr (last_is ∙ ap (held new) own ∙ two-steps.same leaf (λ same. child-other.not_leaf (sym same)) (λ same. place.apart (sym same)) ∙ taken.gone)
                      | inr other ↦ inl (subst (λ all. Contains all p) (one-places parents.before parents.after one-there.other only_there one-there.is ∙ sym (places-joined parents.prefix one-there.other only_there)) other)
                    ]
                  ]

              two-dropped : HasDropped text old without new parents.upper (part_there parents) root leaf child two-steps last root_now child_or_root-there now_there parents.text (branch_leaves parents.before) (branch_leaves parents.after)
              two-dropped = record {
                at_root = root-joined parents.prefix one-there.other only_there ∙ child-is;
                stands = now-stands;
                sound = joined-sound parents.before byte leaf_there parents.after (path_to parents.upper) parents.prefix parent place.sound one-there.other only_there one-there.is;
                smallest_kinds = now-smallest_kinds;
                was = leaves-taken parents.prefix parent parents.before byte leaf parents.text parents.after;
                is = leaves-joined parents.prefix one-there.other only_there ∙ sym (one-leaves parents.before parents.after one-there.other only_there one-there.is);
                is_linked = taken.is_linked _ _ place.is_linked;
                freed = now-freed;
              }

              -- the tree is left without the leaf, whose entry goes
              pub two-removed : IsRemoved text old last parents.text (Some root_now) entry
              two-removed =
                  leaf-removed text old without new parents.upper (part_there parents) root leaf child two-steps last root_now child_or_root-there now_there parents.text (branch_leaves parents.before) (branch_leaves parents.after) two-dropped
                  place.alone entry (place.entry ∙ ap Some (sym (taken.entry place.own place.own_held)))

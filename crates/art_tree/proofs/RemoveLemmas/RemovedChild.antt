-- Removal: a leaf of a node of more than two children.
use Rattle.art_tree.proofs.Names.{◌≡◌, ◌≢◌, ◌↔◌, ◌⊎◌, ◌∙◌, Bool, IsTrue, ℕ, ◌+◌, ◌<◌, ◌≤◌, List, [], ◌∷◌, ◌++◌, length, Contains, Option, Some, None, refl, sym, ap, subst, inl, inr, arith, Contains-append_right, kind_for, least_children, shrunk_kind, NodeType, child_at, without_child, node_kind, opaque_key, OpaqueNodePtr, LeafNode, NodeArena, HeldInner, HeldLeaf, Nothing, held, room, AllStandIn, Tree, Leaf, Inner, Branch, branch_roots, branch_leaves, branch_places, path_to, KeepsAt, join, HasOneLess, HasRoomToShrink, WhetherFewest, HasParents, IsTaken, HasChildUnder, IsChildOrRoot, above, IsRemoved, NeedsSmallerNode, leaf_kind, one-inner, LeafKind, Node16, Node256, Node4, Node48, InnerNode, node_without_child}
use Rattle.art_steps.proofs.SharedLemmas.BranchLemmas.{leaves-join, places-join, roots-join}
use Rattle.art_steps.proofs.SharedLemmas.ChangedTree.{held-on, place-held}
use Rattle.art_tree.proofs.RemoveLemmas.RemovedLeaf.{AreRemovalSteps, HasDropped, has-child_under, leaf-removed, inside-kept, last-inside, top-last}
use Rattle.art_tree.proofs.RemoveLemmas.RemainingTree.{dropped-child, dropped-roots, dropped-sound, left-smallest_kinds}
use Rattle.art_steps.proofs.SharedLemmas.ExchangedSubtree.{kept-branches}
use Rattle.art_tree.proofs.RemoveLemmas.LeafParent.{LeafPlace, is-other, part_there, place-cases}
use Rattle.art_steps.proofs.InsertLemmas.NodeLemmas.{some-inner}
use Rattle.art_steps.proofs.InsertLemmas.SubtreeLemmas.{leaves-taken}
use Rattle.art_steps.proofs.SharedLemmas.NodeKinds.{kind-lasts, kind-shrinks, least-fits}

shrunk-inner : (kind : NodeType) → kind ≢ LeafKind → shrunk_kind kind ≢ LeafKind
shrunk-inner Node4 inner = λ e. cc
shrunk-inner Node16 inner = λ e. cc
shrunk-inner Node48 inner = λ e. cc
shrunk-inner Node256 inner = λ e. cc
shrunk-inner LeafKind inner = absurd (inner refl)

module _ {K V : Type 0} {P : ℕ} {text : K → List ℕ} {old : NodeArena K V P} {root leaf parent : OpaqueNodePtr K V P} {byte : ℕ} {higher : Option (OpaqueNodePtr K V P × ℕ)} {tree : Tree (OpaqueNodePtr K V P)} {parents : HasParents tree leaf parent byte higher} (place : LeafPlace text old root parents) where
  -- a node that would be of a smaller kind without the leaf has 5, 17 or 49 children
  least-counts : (kind : NodeType) → kind ≢ LeafKind → 2 < length place.node.children → length place.node.children ≡ least_children kind → (length place.node.children ≡ 5) ⊎ ((length place.node.children ≡ 17) ⊎ (length place.node.children ≡ 49))
  least-counts Node4 inner two least = absurd (omega (arith, two, least))
  least-counts Node16 inner two least = inl least
  least-counts Node48 inner two least = inr (inl least)
  least-counts Node256 inner two least = inr (inr least)
  least-counts LeafKind inner two least = absurd (inner refl)

  pub needs-smaller : ((node : InnerNode (OpaqueNodePtr K V P)) → held old parent ≡ HeldInner node → (2 < length node.children) × (length node.children ≡ least_children (node_kind parent))) → NeedsSmallerNode text old parents.text
  needs-smaller few =
      let has = few place.node place.is_held in
      record {
        pointer = leaf;
        leaf = place.own;
        is_held = place.own_held;
        has_text = place.own_text;
        parent = parent;
        node = place.node;
        parent_held = place.is_held;
        byte = byte;
        is_child = subst (λ children. Contains children (byte, leaf)) (sym (place.shows.children ∙ roots-join parents.before (Branch byte (Leaf leaf parents.text) parents.after))) (Contains-append_right (branch_roots parents.before) ((byte, leaf) ∷ branch_roots parents.after) (byte, leaf) (0, omega arith, refl));
        count = least-counts (node_kind parent) place.inner has.0 has.1;
      }

  -- a node that has not two children has more
  pub more-than-two : length place.node.children ≢ 2 → (node : InnerNode (OpaqueNodePtr K V P)) → held old parent ≡ HeldInner node → 2 < length node.children
  more-than-two many node is =
      let same = ap (λ n. length n.children) (one-inner (held old parent) place.node node place.is_held is) in
      omega (arith, same, many, ap length place.shows.children, place.sound.0)

  -- where no smaller kind is needed, the node has more than the fewest children of its kind
  pub not-least : length place.node.children ≢ 2 → (¬ NeedsSmallerNode text old parents.text) → (node : InnerNode (OpaqueNodePtr K V P)) → held old parent ≡ HeldInner node → length node.children ≢ least_children (node_kind parent)
  not-least many enough node is least =
      enough (needs-smaller (λ other there. (more-than-two many other there, ap (λ n. length n.children) (one-inner (held old parent) other node there is) ∙ least)))

  -- the node is as it was once the leaf is taken
  module _ {without : NodeArena K V P} {entry : K × V} (taken : IsTaken old without leaf entry) where
    pub parent-is : held without parent ≡ HeldInner place.node
    parent-is = (taken.others parent place.apart).keeps.inner place.node place.is_held

    pub parent-held : held without parent ≢ Nothing
    parent-held = some-inner (held without parent) place.node parent-is

    pub child-there : (node : InnerNode (OpaqueNodePtr K V P)) → held without parent ≡ HeldInner node → child_at node.children byte ≢ None
    child-there node is none =
        let same = one-inner (held without parent) place.node node parent-is is in
        let some = ap (λ n. child_at n.children byte) (sym same) ∙ ap (λ children. child_at children byte) place.shows.children ∙ dropped-child parents.before byte (Leaf leaf parents.text) parents.after place.sound.1 in
        let wrong : Some leaf ≡ None = sym some ∙ none in absurd (cc)

    pub tells-fewest : {fewest : Bool} → WhetherFewest old parent fewest → WhetherFewest without parent fewest
    tells-fewest {fewest = fewest} tells node is = subst (λ n. IsTrue fewest ↔ (length n.children ≡ least_children (node_kind parent))) (one-inner (held without parent) place.node node parent-is is) (tells place.node place.is_held)

    module _ (many : length place.node.children ≢ 2) where
      pub three : 2 < length place.node.children
      three = omega (arith, many, ap length place.shows.children, place.sound.0)

      kind-there : node_kind parent ≡ kind_for (length place.node.children)
      kind-there = place.smallest_kinds.0 ∙ ap (λ children. kind_for (length children)) (sym place.shows.children)

      pub parent-many : (node : InnerNode (OpaqueNodePtr K V P)) → held without parent ≡ HeldInner node → (2 < length node.children) × (least_children (node_kind parent) ≤ length node.children)
      parent-many node is =
          let same = ap (λ n. length n.children) (one-inner (held without parent) place.node node parent-is is) in (
            omega (arith, same, three),
            subst (λ n. least_children (node_kind parent) ≤ n) same (subst (λ k. least_children k ≤ length place.node.children) (sym kind-there) (least-fits (length place.node.children) (omega (arith, three)))),
          )

      pub room-to-shrink : ((node : InnerNode (OpaqueNodePtr K V P)) → held old parent ≡ HeldInner node → 2 < length node.children → length node.children ≡ least_children (node_kind parent) → 0 < room old (shrunk_kind (node_kind parent))) → HasRoomToShrink without parent
      room-to-shrink rooms node is two least =
          let same = one-inner (held without parent) place.node node parent-is is in
          let was = rooms place.node place.is_held (subst (λ n. 2 < length n.children) (sym same) two) (ap (λ n. length n.children) same ∙ least) in
          omega (arith, was, taken.room (shrunk_kind (node_kind parent)))

      -- the node has a child less, and may be at another place
      module _ (new : NodeArena K V P) (top : OpaqueNodePtr K V P) (less : HasOneLess without new parent place.node (node_without_child place.node byte) top) where
        top-held : held new top ≡ HeldInner (node_without_child place.node byte)
        top-held = elim less [ inl cutting ↦ ap (held new) cutting.same ∙ cutting.changes.changed | inr shrunk ↦ shrunk.replaced.is_held ]

        top-apart : top ≢ leaf
        top-apart same = elim less [
          | inl cutting ↦ place.apart (sym cutting.same ∙ same)
          | inr shrunk ↦ shrunk-inner (node_kind parent) place.inner (sym shrunk.replaced.kind ∙ ap node_kind same ∙ leaf_kind old (node_kind leaf) (opaque_key leaf) place.own place.own_held)
        ]

        top-no-leaf : (l : LeafNode K V P) → held old top ≡ HeldLeaf l → ⊥
        top-no-leaf l is = elim less [
          | inl cutting ↦ (let wrong : HeldInner place.node ≡ HeldLeaf l = sym place.is_held ∙ ap (held old) (sym cutting.same) ∙ is in absurd (cc))
          | inr shrunk ↦ (let now = (taken.others top top-apart).keeps.leaf l is in let wrong : HeldLeaf now.0 ≡ Nothing = sym now.1 ∙ shrunk.replaced.was_free in absurd (cc))
        ]

        abbrev many-steps : AreRemovalSteps text old without new parents.upper (part_there parents) root leaf top
        many-steps = record {
          stood = place.alone.is_tree.stands;
          sound = place.alone.is_tree.sound;
          was_root = place.alone.is_tree.at_root;
          distinct = place.distinct;
          inside = place.inside;
          gone = taken.gone;
          stays = taken.others;
          other = top-apart;
          top_was = elim less [ inl cutting ↦ inl (0, omega arith, sym cutting.same) | inr shrunk ↦ inr shrunk.replaced.was_free ];
          top_leaf = λ l is. absurd (top-no-leaf l is);
          node_inner = place.no_leaf;
          same = λ p not_top not_parent. elim less [ inl cutting ↦ cutting.changes.others p not_parent | inr shrunk ↦ shrunk.replaced.others p not_top not_parent ];
        }

        pub many-has_child : HasChildUnder new higher parent
        many-has_child = subst (λ above. HasChildUnder new above parent) parents.parent_is (has-child_under text old without new parents.upper (part_there parents) root leaf top many-steps)

        module _ (last : NodeArena K V P) (root_now : OpaqueNodePtr K V P) (child_or_root : IsChildOrRoot new last higher top root root_now) where
          child_or_root-there : IsChildOrRoot new last (above parents.upper) top root root_now
          child_or_root-there = subst (λ h. IsChildOrRoot new last h top root root_now) (sym parents.parent_is) child_or_root

          abbrev now_there : Tree (OpaqueNodePtr K V P)
          now_there = Inner top parents.prefix (join parents.before parents.after)

          leaf-last : held last leaf ≡ Nothing
          leaf-last = last-inside text old without new parents.upper (part_there parents) root leaf top many-steps last root_now child_or_root-there leaf place.inside ∙ many-steps.same leaf (λ same. top-apart (sym same)) (λ same. place.apart (sym same)) ∙ taken.gone

          others-stand : AllStandIn text last (join parents.before parents.after)
          others-stand =
              let kept : (q : OpaqueNodePtr K V P) → Contains (branch_places parents.before ++ branch_places parents.after) q → KeepsAt old last q =
              λ q inside.
              let is = is-other parents place.distinct q inside in
              inside-kept text old without new parents.upper (part_there parents) root leaf top many-steps last root_now child_or_root-there q is.inside is.not_leaf (λ same. elim less [
                | inl cutting ↦ is.not_parent (same ∙ cutting.same)
                | inr shrunk ↦ held-on old without q (taken.others q is.not_leaf) (place-held text old (part_there parents) place.stands q is.inside) (ap (held without) same ∙ shrunk.replaced.was_free)
              ]) is.not_parent in
              kept-branches text old last (join parents.before parents.after) place.others_stand (λ q inside. kept q (subst (λ all. Contains all q) (places-join parents.before parents.after) inside))

          many-dropped : HasDropped text old without new parents.upper (part_there parents) root leaf top many-steps last root_now child_or_root-there now_there parents.text (branch_leaves parents.before) (branch_leaves parents.after)
          many-dropped = record {
            at_root = refl;
            stands = (
              node_without_child place.node byte,
              top-last text old without new parents.upper (part_there parents) root leaf top many-steps last root_now child_or_root-there ∙ top-held,
              record {
                prefix_len = place.shows.prefix_len;
                stored = place.shows.stored;
                children = ap (λ children. without_child children byte) place.shows.children ∙ dropped-roots parents.before byte (Leaf leaf parents.text) parents.after place.sound.1;
              },
              others-stand,
            );
            sound = dropped-sound parents.before byte (Leaf leaf parents.text) parents.after (path_to parents.upper) parents.prefix parent place.sound top (omega (arith, three, place.count));
            smallest_kinds = (top-kind, left-smallest_kinds parents.before byte (Leaf leaf parents.text) parents.after place.smallest_kinds.1);
            was = leaves-taken parents.prefix parent parents.before byte leaf parents.text parents.after;
            is = leaves-join parents.before parents.after;
            is_linked = taken.is_linked _ _ place.is_linked;
            freed = λ p inside. elim (place-cases parents p inside) [
              | inl at ↦ elim less [
                | inl cutting ↦ inl (0, omega arith, cutting.same ∙ sym at)
                | inr shrunk ↦ inr (last-inside text old without new parents.upper (part_there parents) root leaf top many-steps last root_now child_or_root-there p inside ∙ ap (held new) at ∙ shrunk.replaced.is_free)
              ]
              | inr rest ↦ elim rest [
                | inl own ↦ inr (ap (held last) own ∙ leaf-last)
                | inr other ↦ inl (Contains-append_right (top ∷ []) (branch_places (join parents.before parents.after)) p (subst (λ all. Contains all p) (sym (places-join parents.before parents.after)) other))
              ]
            ];
          }
            where
              top-kind : node_kind top ≡ kind_for (length (branch_roots (join parents.before parents.after)))
              top-kind =
                  let left = length (branch_roots (join parents.before parents.after)) in
                  let kind : node_kind parent ≡ kind_for (left + 1) = kind-there ∙ ap kind_for place.count in
                  elim less [
                    | inl cutting ↦ ap node_kind cutting.same ∙ kind-lasts left (node_kind parent) kind (subst (λ m. least_children (node_kind parent) < m) place.count cutting.many)
                    | inr shrunk ↦ shrunk.replaced.kind ∙ kind-shrinks left (node_kind parent) (omega (arith, three, place.count)) kind (sym place.count ∙ shrunk.least)
                  ]

          -- the tree has all entries but that of the leaf
          pub many-removed : IsRemoved text old last parents.text (Some root_now) entry
          many-removed =
              leaf-removed text old without new parents.upper (part_there parents) root leaf top many-steps last root_now child_or_root-there now_there parents.text (branch_leaves parents.before) (branch_leaves parents.after) many-dropped
              place.alone entry (place.entry ∙ ap Some (sym (taken.entry place.own place.own_held)))

-- Search: the state of the descent, and one node visit more.
use Rattle.art_search.proofs.Names.{LeafPtr, Bool, IsTrue, Bor, IfSome, IfNone, ◌≡◌, ◌≢◌, ◌∙◌, ℕ, ◌+◌, ◌≤◌, true, false, List, [], ◌∷◌, ◌++◌, length, length-append, Option, Some, None, slice_get, drop, refl, sym, ap, subst, arith, nat_eq, append_assoc, if◌then◌else◌, append-nil, pointwise, drop-append_seam, drop-drop, IsPrefixOf, child_at, OpaqueNodePtr, LeafNode, NodeArena, Held, Nothing, HeldInner, HeldLeaf, held, shown, StandsIn, AllStandIn, NodeStands, IsTreeIn, leaf_text, Tree, Inner, Branches, IsSound, root_of, branch_roots, at-some, shown-prefix, TreePath, LeadsOn, LeadsNowhere, LeadsOnFrom, LeadsNowhereFrom, Steps, HasVisited, scan, met, IsWay, leaf_pointer, other_text, text_itself, InnerNode}
use Rattle.art_arena.specs.declared.reader.AnyNodeRef.{AnyNodeRef}
use Rattle.art_arena.specs.declared.reader.AnyNodeRef.TheVariants as references
use Rattle.art_search.proofs.HeldParts.{inner-part, leaf-part, part-held}
use Rattle.art_search.proofs.DescentLemmas.{prefix-goes}
use Rattle.art_search.proofs.ScanLemmas.{scan-nowhere, met-nowhere, branching}

-- a leaf that was looked at is held on
pub still-held : {K V : Type 0} {P : ℕ} (now arena : NodeArena K V P) (at : OpaqueNodePtr K V P) (leaf : LeafPtr K V P) (node : LeafNode K V P) → now ≡ arena → leaf_pointer leaf ≡ at → held arena at ≡ HeldLeaf node → held now (leaf_pointer leaf) ≢ Nothing
still-held now arena at leaf node same pointer holds nothing =
    let one : HeldLeaf node ≡ Nothing = sym holds ∙ ap (held arena) (sym pointer) ∙ ap (λ a. held a (leaf_pointer leaf)) (sym same) ∙ nothing in absurd (cc)

-- a search is at this pointer, after so many bytes and node visits: what the whole tree has of the
-- key is what this part has
pub record IsHere {K V : Type 0} {P : ℕ} (text : K → List ℕ) (arena : NodeArena K V P) (whole : Tree (OpaqueNodePtr K V P)) (key : List ℕ) (at : OpaqueNodePtr K V P) (depth : ℕ) (search : TreePath K V P) (budget left : ℕ) : Type 0 where
  pub part : Tree (OpaqueNodePtr K V P)
  pub path : List ℕ
  pub steps : Steps K V P
  pub at_root : root_of part ≡ at
  pub stands : StandsIn text arena part
  pub sound : IsSound path part
  pub deep : length path ≡ depth
  pub same_scan : scan whole key ≡ scan part key
  pub same_met : length (met P whole key) ≡ length steps + length (met P part (drop depth key))
  pub way_on : (more : Steps K V P) (pointer : OpaqueNodePtr K V P) → IsWay part more pointer → IsWay whole (steps ++ more) pointer
  pub remembered : HasVisited search steps
  pub counted : left + length steps ≡ budget
  pub few : length steps ≤ depth

drop-front : (path front key : List ℕ) (depth : ℕ) → length path ≡ depth → IsPrefixOf (path ++ front) key → IsPrefixOf front (drop depth key)
drop-front path front key depth deep (rest, is) = (rest, subst (λ m. drop m key ≡ front ++ rest) deep (ap (drop (length path)) (is ∙ append_assoc path front rest) ∙ drop-append_seam path (front ++ rest)))

module _ {K V : Type 0} {P : ℕ} (text : K → List ℕ) (arena : NodeArena K V P) (whole : Tree (OpaqueNodePtr K V P)) (key : List ℕ) where
  pub here-start : (root : OpaqueNodePtr K V P) (search : TreePath K V P) (budget : ℕ) → IsTreeIn text arena root whole → HasVisited search [] → IsHere text arena whole key root 0 search budget budget
  here-start root search budget is empty = record { part = whole; path = []; steps = []; at_root = is.at_root; stands = is.stands; sound = is.sound; deep = refl; same_scan = refl; same_met = omega arith; way_on = λ more pointer way. way; remembered = empty; counted = omega arith; few = omega arith }

  module _ (at : OpaqueNodePtr K V P) (depth : ℕ) (search : TreePath K V P) (budget left : ℕ) (here : IsHere text arena whole key at depth search budget left) where
    -- something is held where the search is
    pub here-held : held arena at ≢ Nothing
    here-held = part-held text arena at here.part here.at_root here.stands

    -- the search is at a leaf
    pub record AtLeaf (leaf : LeafNode K V P) : Type 0 where
      pub same_scan : scan whole key ≡ (if pointwise nat_eq (leaf_text text leaf) key then (at, leaf_text text leaf) ∷ [] else [])
      pub way : IsWay whole here.steps at
      pub visits : length (met P whole key) ≡ length here.steps + 1

    pub here-leaf : (leaf : LeafNode K V P) → held arena at ≡ HeldLeaf leaf → AtLeaf leaf
    here-leaf leaf is =
        let part_is = leaf-part text arena at leaf here.part here.at_root here.stands is in
        record {
          same_scan = here.same_scan ∙ ap (λ part. scan part key) part_is;
          way = subst (λ steps. IsWay whole steps at) (append-nil here.steps) (here.way_on [] at (subst (λ part. IsWay part [] at) (sym part_is) (refl, refl)));
          visits = here.same_met ∙ ap (λ part. length here.steps + length (met P part (drop depth key))) part_is;
        }

    module _ (node : InnerNode (OpaqueNodePtr K V P)) (is : held arena at ≡ HeldInner node) where
      -- the node where the search is, as a part of the tree
      record AtNode : Type 0 where
        prefix : List ℕ
        branches : Branches (OpaqueNodePtr K V P)
        sound : IsSound here.path (Inner at prefix branches)
        shows : NodeStands P node prefix branches
        stand : AllStandIn text arena branches
        same_scan : scan whole key ≡ scan (Inner at prefix branches) key
        same_met : length (met P whole key) ≡ length here.steps + length (met P (Inner at prefix branches) (drop depth key))
        way_on : (more : Steps K V P) (pointer : OpaqueNodePtr K V P) → IsWay (Inner at prefix branches) more pointer → IsWay whole (here.steps ++ more) pointer

      at_node : AtNode
      at_node =
          let part = inner-part text arena at node here.part here.at_root here.stands is in
          record {
            prefix = part.prefix;
            branches = part.branches;
            sound = subst (IsSound here.path) part.is here.sound;
            shows = part.shows;
            stand = part.stand;
            same_scan = here.same_scan ∙ ap (λ part. scan part key) part.is;
            same_met = here.same_met ∙ ap (λ part. length here.steps + length (met P part (drop depth key))) part.is;
            way_on = λ more pointer way. here.way_on more pointer (subst (λ part. IsWay part more pointer) (sym part.is) way);
          }

      module _ (n : AtNode) where
        nowhere-scan : LeadsNowhere P node key depth → scan whole key ≡ []
        nowhere-scan nowhere = n.same_scan ∙ scan-nowhere key (here.path ++ n.prefix) n.branches n.sound.2 (λ byte front.
            subst (λ c. child_at c byte ≡ None) n.shows.children
            (nowhere n.prefix byte (shown-prefix P node n.prefix n.branches n.shows) (prefix-goes P n.prefix byte (drop depth key)
            (drop-front here.path (n.prefix ++ byte ∷ []) key depth here.deep (subst (λ f. IsPrefixOf f key) (append_assoc here.path n.prefix (byte ∷ [])) front)))))

        nowhere-met : LeadsNowhere P node key depth → length (met P whole key) ≡ length here.steps + 1
        nowhere-met nowhere =
            let none = met-nowhere P n.prefix (drop depth key) n.branches (λ byte goes. subst (λ c. child_at c byte ≡ None) n.shows.children (nowhere n.prefix byte (shown-prefix P node n.prefix n.branches n.shows) goes)) in
            n.same_met ∙ ap (λ below. length here.steps + length (at ∷ below)) none

        on-at : (next : ℕ × OpaqueNodePtr K V P) → LeadsOn P node key depth next → (visited : TreePath K V P) → ((steps : Steps K V P) (byte : ℕ) → slice_get key next.0 ≡ Some byte → HasVisited search steps → HasVisited visited (steps ++ (at, byte) ∷ []))
            → (after : ℕ) → after + 1 ≡ left → IsHere text arena whole key next.1 (next.0 + 1) visited budget after
        on-at next on visited visits after looked =
            let far : length (here.path ++ n.prefix) ≡ depth + length n.prefix = omega (arith, length-append here.path n.prefix, here.deep) in
            let place : next.0 ≡ length (here.path ++ n.prefix) = omega (arith, on.place, n.shows.prefix_len, far) in
            let at_byte : slice_get key (length (here.path ++ n.prefix)) ≡ Some on.byte = subst (λ m. slice_get key m ≡ Some on.byte) place on.at_place in
            let child : child_at (branch_roots n.branches) on.byte ≡ Some next.1 = subst (λ c. child_at c on.byte ≡ Some next.1) n.shows.children on.child in
            let b = branching P n.prefix (drop depth key) {Stand = StandsIn text arena} {AllStand = AllStandIn text arena} (λ byte tree others both. both) (here.path ++ n.prefix) key n.branches 0 on.byte next.1 n.sound.2 n.stand n.sound.1 at_byte (on.goes n.prefix (shown-prefix P node n.prefix n.branches n.shows)) child in
            let rest : drop (length n.prefix + 1) (drop depth key) ≡ drop (next.0 + 1) key = drop-drop (length n.prefix + 1) depth key ∙ ap (λ m. drop m key) (omega (arith, place, far)) in
            record {
              part = b.tree;
              path = (here.path ++ n.prefix) ++ on.byte ∷ [];
              steps = here.steps ++ (at, on.byte) ∷ [];
              at_root = b.at_root;
              stands = b.stands;
              sound = b.sound;
              deep = omega (arith, length-append (here.path ++ n.prefix) (on.byte ∷ []), place);
              same_scan = n.same_scan ∙ b.same_scan;
              same_met = n.same_met ∙ ap (λ below. length here.steps + length (at ∷ below)) (b.same_met ∙ ap (met P b.tree) rest) ∙ omega (arith, length-append here.steps ((at, on.byte) ∷ []));
              way_on = λ more pointer way. subst (λ steps. IsWay whole steps pointer) (sym (append_assoc here.steps ((at, on.byte) ∷ []) more)) (n.way_on ((at, on.byte) ∷ more) pointer (on.byte, more, refl, b.way_on more pointer way));
              remembered = visits here.steps on.byte on.at_place here.remembered;
              counted = omega (arith, length-append here.steps ((at, on.byte) ∷ []), here.counted, looked);
              few = omega (arith, length-append here.steps ((at, on.byte) ∷ []), here.few, on.place);
            }

      pub here-nowhere-scan : LeadsNowhere P node key depth → scan whole key ≡ []
      here-nowhere-scan nowhere = nowhere-scan at_node nowhere

      pub here-nowhere-met : LeadsNowhere P node key depth → length (met P whole key) ≡ length here.steps + 1
      here-nowhere-met nowhere = nowhere-met at_node nowhere

      pub here-on : (next : ℕ × OpaqueNodePtr K V P) → LeadsOn P node key depth next → (visited : TreePath K V P) → ((steps : Steps K V P) (byte : ℕ) → slice_get key next.0 ≡ Some byte → HasVisited search steps → HasVisited visited (steps ++ (at, byte) ∷ []))
          → (after : ℕ) → after + 1 ≡ left → IsHere text arena whole key next.1 (next.0 + 1) visited budget after
      here-on next on visited visits after looked = on-at at_node next on visited visits after looked

-- the result of a step from the inner node that was visited
pub record Told {K V : Type 0} {P : ℕ} (arena : NodeArena K V P) (key : List ℕ) (at : OpaqueNodePtr K V P) (depth : ℕ) (next : Option (ℕ × OpaqueNodePtr K V P)) : Type 0 where
  pub node : InnerNode (OpaqueNodePtr K V P)
  pub is : held arena at ≡ HeldInner node
  pub on : IfSome next (LeadsOn P node key depth)
  pub nowhere : IfNone next (LeadsNowhere P node key depth)

module _ {K V : Type 0} {P : ℕ} (arena now : NodeArena K V P) (key : List ℕ) (at : OpaqueNodePtr K V P) (depth : ℕ) (next : Option (ℕ × OpaqueNodePtr K V P)) (same : now ≡ arena) where
  abbrev Ref : Type 0
  Ref = AnyNodeRef (InnerNode (OpaqueNodePtr K V P)) (InnerNode (OpaqueNodePtr K V P)) (InnerNode (OpaqueNodePtr K V P)) (InnerNode (OpaqueNodePtr K V P)) (LeafNode K V P)

  abbrev inner-held : InnerNode (OpaqueNodePtr K V P) → Held (OpaqueNodePtr K V P) (LeafNode K V P)
  inner-held node = HeldInner node

  told-at : (node : InnerNode (OpaqueNodePtr K V P)) → held now at ≡ HeldInner node → IfSome next (LeadsOnFrom P (inner-held node) key depth) → IfNone next (LeadsNowhereFrom P (inner-held node) key depth) → Told arena key at depth next
  told-at node holds on nowhere = record {
    node = node;
    is = ap (λ a. held a at) (sym same) ∙ holds;
    on = of_some next on;
    nowhere = of_none next nowhere;
  }
    where
      of_some : (o : Option (ℕ × OpaqueNodePtr K V P)) → IfSome o (LeadsOnFrom P (inner-held node) key depth) → IfSome o (LeadsOn P node key depth)
      of_some None h = h
      of_some (Some way) h = h node refl

      of_none : (o : Option (ℕ × OpaqueNodePtr K V P)) → IfNone o (LeadsNowhereFrom P (inner-held node) key depth) → IfNone o (LeadsNowhere P node key depth)
      of_none None h = h node refl
      of_none (Some way) h = h

  -- a node that is no leaf is an inner node
  pub told : (ref : Ref) → held now at ≡ shown ref → ((leaf : Bor (LeafNode K V P)) → ref ≡ references.LeafNode leaf → ⊥) → IfSome next (LeadsOnFrom P (shown ref) key depth) → IfNone next (LeadsNowhereFrom P (shown ref) key depth) → Told arena key at depth next
  told (references.Node4 node) holds no_leaf on nowhere = told-at node.now holds on nowhere
  told (references.Node16 node) holds no_leaf on nowhere = told-at node.now holds on nowhere
  told (references.Node48 node) holds no_leaf on nowhere = told-at node.now holds on nowhere
  told (references.Node256 node) holds no_leaf on nowhere = told-at node.now holds on nowhere
  told (references.LeafNode leaf) holds no_leaf on nowhere = absurd (no_leaf leaf refl)

module _ {A : Type 0} where
  pub at-none : (Holds : Type 0) (o : Option A) → o ≡ None → IfNone o Holds → Holds
  at-none Holds None is holds = holds
  at-none Holds (Some y) is holds = absurd (cc)

module _ {K V : Type 0} {P : ℕ} (arena : NodeArena K V P) (key : List ℕ) (at : OpaqueNodePtr K V P) (depth : ℕ) (next : Option (ℕ × OpaqueNodePtr K V P)) (t : Told arena key at depth next) where
  pub told-on : (way : ℕ × OpaqueNodePtr K V P) → next ≡ Some way → LeadsOn P t.node key depth way
  told-on way is = at-some (LeadsOn P t.node key depth) next way is t.on

  pub told-nowhere : next ≡ None → LeadsNowhere P t.node key depth
  told-nowhere is = at-none (LeadsNowhere P t.node key depth) next is t.nowhere

  pub told-later : (way : ℕ × OpaqueNodePtr K V P) → next ≡ Some way → depth ≤ way.0
  told-later way is = let on = told-on way is in omega (arith, on.place)

-- the result at a leaf, by its text
pub leaf-hit : {H : Type 0} (answer : List (H × List ℕ)) (at : H) (text key : List ℕ) → answer ≡ (if pointwise nat_eq text key then (at, text) ∷ [] else []) → text ≡ key → answer ≡ (at, key) ∷ []
leaf-hit answer at text key is same = is ∙ rw (subst (λ k. pointwise nat_eq text k ≡ true) same (text_itself text)) (ap (λ z. (at, z) ∷ []) same)

pub leaf-miss : {H : Type 0} (answer : List (H × List ℕ)) (at : H) (text key : List ℕ) → answer ≡ (if pointwise nat_eq text key then (at, text) ∷ [] else []) → (text ≡ key → ⊥) → answer ≡ []
leaf-miss answer at text key is never = is ∙ rw (other_text text key never) refl

pub not-true : (test : Bool) → test ≡ false → IsTrue test → ⊥
not-true test is holds = let wrong : false ≡ true = sym is ∙ holds in absurd (cc)

-- Loading: trees that are placed into an arena.
use Rattle.art_steps.proofs.Names.{LeafPtr, ◌≡◌, ◌≢◌, ◌⊎◌, ◌∙◌, ℕ, zero, suc, ◌+◌, ◌-◌, ◌<◌, ◌≤◌, Bool, true, false, nat_le, List, [], ◌∷◌, ◌++◌, length, length-append, map, take, drop, get_or, slice_get, Some, inl, inr, refl, sym, ap, subst, arith, append_assoc, if◌then◌else◌, ◌&&◌, Contains, append-nil, and_from, le-leb, length-map, take_at, drop_at, drop_more, take_all, take_rest, drop_all, slice_get_within, same_Some, get_or_from_slice_get, kind_for, least_children, most_children, NodeType, IsAscending, IsAscendingFrom, key_bytes, slab_key, OpaqueNodePtr, LeafNode, same_or_differ, NodeArena, Held, HeldInner, HeldLeaf, Nothing, held, room, Changes, HoldsLeaf, text_at, AllStandIn, leaf_text, Tree, Leaf, Inner, Branches, NoBranch, branch_roots, branch_leaves, branch_places, leaves, places, root_of, needed, join, HaveSmallestKinds, Adds, IsRaised, HoldLeaves, leaf_pairs, leaf_texts, node_of, IsPlaced, leaf_pointer, Step, all-allocated, LeafKind, Node16, Node256, Node4, Node48}
use Rattle.art_steps.specs.declared.steps.Step.TheVariants as step
use Rattle.art_steps.proofs.SharedLemmas.BranchLemmas.{roots-join, leaves-join, places-join, one_branch, stand-join, stand-split, smallest_kinds-join, smallest_kinds-split}
use Rattle.art_steps.proofs.SharedLemmas.TextLists.{one-or-other, one-there, other-stays}
use Rattle.art_steps.proofs.SharedLemmas.PrefixLemmas.{take-get}
use Rattle.art_steps.proofs.LoadLemmas.PlanLemmas.{Leads, Takes}
use Rattle.art_links.proofs.HeldNodes.{cases_pointer, cases_held, text-kept}
use Rattle.art_steps.proofs.SharedLemmas.NodeKinds.{by_kind}

abbrev is_needed : NodeType → ℕ → Bool
is_needed kind n = nat_le (least_children kind) n && nat_le n (most_children kind)

-- a node is counted under its own kind
needed-own : (n : ℕ) → 2 ≤ n → n ≤ 256 → is_needed (kind_for n) n ≡ true
needed-own n two few =
    by_kind n (is_needed (kind_for n) n ≡ true)
    (λ four is. ap (λ k. is_needed k n) is ∙ and_from (nat_le 2 n) (nat_le n 4) (le-leb 2 n two) (le-leb n 4 four))
    (λ past sixteen is. ap (λ k. is_needed k n) is ∙ and_from (nat_le 5 n) (nat_le n 16) (le-leb 5 n past) (le-leb n 16 sixteen))
    (λ more many is. ap (λ k. is_needed k n) is ∙ and_from (nat_le 17 n) (nat_le n 48) (le-leb 17 n more) (le-leb n 48 many))
    (λ most is. ap (λ k. is_needed k n) is ∙ and_from (nat_le 49 n) (nat_le n 256) (le-leb 49 n most) (le-leb n 256 few))

not-leaf : (n : ℕ) → kind_for n ≢ LeafKind
not-leaf n = by_kind n (kind_for n ≢ LeafKind) (λ few is e. cc) (λ past few is e. cc) (λ more few is e. cc) (λ all is e. cc)

one-more : (test : Bool) (n : ℕ) → test ≡ true → (if test then 1 else 0) + n ≡ n + 1
one-more true n e = omega arith
one-more false n e = absurd (cc)

no-less : (test : Bool) (n : ℕ) → n ≤ (if test then 1 else 0) + n
no-less true n = omega arith
no-less false n = omega arith

module _ {K V : Type 0} {P : ℕ} where
  -- a node more at a free place
  pub adds-more : (before old new : NodeArena K V P) (at : OpaqueNodePtr K V P) (now : Held (OpaqueNodePtr K V P) (LeafNode K V P)) (xs ys : List (OpaqueNodePtr K V P)) → Adds before old xs → held old at ≡ Nothing → Changes old new at now → now ≢ Nothing
      → ((pointer : OpaqueNodePtr K V P) → Contains ys pointer → (pointer ≡ at) ⊎ Contains xs pointer) → Contains ys at → ((pointer : OpaqueNodePtr K V P) → Contains xs pointer → Contains ys pointer) → Adds before new ys
  adds-more before old new at now xs ys a free changes some cases has keeps =
      let apart : (pointer : OpaqueNodePtr K V P) → held old pointer ≢ Nothing → pointer ≢ at = λ pointer is_held same. is_held (ap (held old) same ∙ free) in
      let at_free : held before at ≡ Nothing = elim (cases_held (held before at)) [ inl none ↦ none | inr was ↦ absurd (was (sym (a.kept at was) ∙ free)) ] in
      record {
        kept = λ pointer was. let same = a.kept pointer was in changes.others pointer (apart pointer (subst (λ h. h ≢ Nothing) (sym same) was)) ∙ same;
        were_free = λ pointer inside. elim (cases pointer inside) [ inl same ↦ ap (held before) same ∙ at_free | inr earlier ↦ a.were_free pointer earlier ];
        are_held = λ pointer inside. elim (cases pointer inside) [
          | inl same ↦ subst (λ h. h ≢ Nothing) (sym (ap (held new) same ∙ changes.changed)) some
          | inr earlier ↦ let was = a.are_held pointer earlier in subst (λ h. h ≢ Nothing) (sym (changes.others pointer (apart pointer was))) was
        ];
        no_others = λ pointer was_free is_held. elim (cases_pointer pointer at) [
          | inl same ↦ subst (Contains ys) (sym same) has
          | inr differ ↦ keeps pointer (a.no_others pointer was_free (subst (λ h. h ≢ Nothing) (changes.others pointer differ) is_held))
        ];
      }

most-bytes : (low : ℕ) (bytes : List ℕ) → low ≤ 256 → IsAscendingFrom low bytes → low + length bytes ≤ 256
most-bytes low [] le asc = omega (arith, le)
most-bytes low (b ∷ bytes) le asc = let rest = most-bytes (suc b) bytes (omega (arith, asc.1)) asc.2 in omega (arith, rest, asc.0)

pub last-part : {A : Type 0} (xs pending : List A) (n k : ℕ) → xs ≡ pending → n ≡ length pending - k → take (length xs - n) (drop n xs) ≡ drop (length pending - k) pending
last-part xs pending n k same is = take_rest xs n ∙ ap (drop n) same ∙ ap (λ m. drop m pending) is

drop-get : {A : Type 0} (xs : List A) (i : ℕ) (x : A) → slice_get xs i ≡ Some x → drop i xs ≡ x ∷ drop (i + 1) xs
drop-get xs i x e = drop_more xs i x (slice_get_within xs i x e) ∙ ap (λ y. y ∷ drop (i + 1) xs) (get_or_from_slice_get xs i x x e)

moved : {A : Type 0} (a b : List A) (x : A) (from to : List A) → b ≡ a ++ x ∷ [] → from ≡ x ∷ to → a ++ from ≡ b ++ to
moved a b x from to end start = ap (λ rest. a ++ rest) start ∙ sym (append_assoc a (x ∷ []) to) ∙ ap (λ front. front ++ to) (sym end)

-- spare capacity for each kind of inner node
pub each-kind : (need has : NodeType → ℕ) → need Node4 ≤ has Node4 → need Node16 ≤ has Node16 → need Node48 ≤ has Node48 → need Node256 ≤ has Node256 → (kind : NodeType) → kind ≢ LeafKind → need kind ≤ has kind
each-kind need has four sixteen many all Node4 inner = four
each-kind need has four sixteen many all Node16 inner = sixteen
each-kind need has four sixteen many all Node48 inner = many
each-kind need has four sixteen many all Node256 inner = all
each-kind need has four sixteen many all LeafKind inner = absurd (inner refl)

module _ {K V : Type 0} {P : ℕ} (text : K → List ℕ) (pairs : List (OpaqueNodePtr K V P × List ℕ)) (pointers : List (OpaqueNodePtr K V P)) where
  -- some steps are done: trees of the first leaves stand, and the steps that are left lead to one tree of all
  pub record IsRising (old now : NodeArena K V P) (next : ℕ) (pending : List (ℕ × OpaqueNodePtr K V P)) (steps : List Step) : Type 0 where
    pub stack : Branches (OpaqueNodePtr K V P)
    pub roots : branch_roots stack ≡ pending
    pub leads : Leads pairs next stack steps
    pub stands : AllStandIn text now stack
    pub smallest_kinds : HaveSmallestKinds stack
    pub in_order : branch_leaves stack ≡ take next pairs
    pub kept : (pointer : OpaqueNodePtr K V P) → held old pointer ≢ Nothing → held now pointer ≡ held old pointer
    pub adds : (before : NodeArena K V P) → Adds before old pointers → Adds before now (branch_places stack ++ drop next pointers)
    pub few : length (branch_roots stack) ≤ next
    pub rooms : (kind : NodeType) → kind ≢ LeafKind → needed kind steps ≤ room now kind

  -- a leaf is taken
  pub rise-leaf : (old now : NodeArena K V P) (next byte : ℕ) (pending after : List (ℕ × OpaqueNodePtr K V P)) (steps : List Step) (at : OpaqueNodePtr K V P) (x : List ℕ) (leaf : LeafNode K V P) → slice_get pairs next ≡ Some (at, x) → slice_get pointers next ≡ Some at
      → held old at ≡ HeldLeaf leaf → leaf_text text leaf ≡ x → after ≡ pending ++ (byte, at) ∷ [] → IsRising old now next pending (step.Leaf byte ∷ steps) → IsRising old now (next + 1) after steps
  rise-leaf old now next byte pending after steps at x leaf pair pointer is_held is_text is_after r =
      let same : r.leads.0 ≡ (at, x) = same_Some r.leads.0 (at, x) (sym r.leads.1 ∙ pair) in
      let one = one_branch byte (Leaf at x) in
      record {
        stack = join r.stack one;
        roots = roots-join r.stack one ∙ ap (λ rest. rest ++ (byte, at) ∷ []) r.roots ∙ sym is_after;
        leads = subst (λ (p : OpaqueNodePtr K V P × List ℕ). Leads pairs (next + 1) (join r.stack (one_branch byte (Leaf p.0 p.1))) steps) same r.leads.2;
        stands = stand-join text now r.stack one r.stands ((leaf, r.kept at (subst (λ h. h ≢ Nothing) (sym is_held) (λ e. cc)) ∙ is_held, is_text), tt);
        smallest_kinds = smallest_kinds-join r.stack one r.smallest_kinds (tt, tt);
        in_order = leaves-join r.stack one ∙ ap (λ rest. rest ++ (at, x) ∷ []) r.in_order ∙ sym (take-get pairs next (at, x) pair);
        kept = r.kept;
        adds = λ before a. subst (Adds before now) (moved (branch_places r.stack) (branch_places (join r.stack one)) at (drop next pointers) (drop (next + 1) pointers) (places-join r.stack one) (drop-get pointers next at pointer)) (r.adds before a);
        few = omega (arith, r.few, ap length (roots-join r.stack one), length-append (branch_roots r.stack) ((byte, at) ∷ []));
        rooms = r.rooms;
      }

  -- what a step that makes a node finds
  pub record IsReady (now : NodeArena K V P) (last : List ℕ) (pending : List (ℕ × OpaqueNodePtr K V P)) (start end children : ℕ) : Type 0 where
    pub enough : children ≤ length pending
    pub count : length (drop (length pending - children) pending) ≡ children
    pub two : 2 ≤ children
    pub few : children ≤ 256
    pub ascending : IsAscending (key_bytes (drop (length pending - children) pending))
    pub ordered : start ≤ end
    pub within : end ≤ length last
    pub rooms : 0 < room now (kind_for children)

  ready : (now : NodeArena K V P) (last : List ℕ) (stack : Branches (OpaqueNodePtr K V P)) (pending : List (ℕ × OpaqueNodePtr K V P)) (byte start end children : ℕ) (steps : List Step) → branch_roots stack ≡ pending → Takes last stack start end children
      → ((kind : NodeType) → kind ≢ LeafKind → needed kind (step.Inner byte start end children ∷ steps) ≤ room now kind) → IsReady now last pending start end children
  ready now last stack pending byte start end children steps roots t rooms =
      let split : pending ≡ branch_roots t.front ++ branch_roots t.branches = sym roots ∙ ap branch_roots t.splits ∙ roots-join t.front t.branches in
      let total = ap length split ∙ length-append (branch_roots t.front) (branch_roots t.branches) in
      let below : length (branch_roots t.front) ≡ length pending - children = omega (arith, total, t.counted) in
      let kids : drop (length pending - children) pending ≡ branch_roots t.branches = ap (drop (length pending - children)) split ∙ drop_at (branch_roots t.front) (branch_roots t.branches) (length pending - children) below in
      let few = most-bytes 0 (key_bytes (branch_roots t.branches)) (omega arith) t.ascending in
      let bytes = length-map (branch_roots t.branches) (λ (pair : ℕ × OpaqueNodePtr K V P). pair.0) in
      let need = rooms (kind_for children) (not-leaf children) in
      let own = one-more (is_needed (kind_for children) children) (needed (kind_for children) steps) (needed-own children (omega (arith, t.two, t.counted)) (omega (arith, few, bytes, t.counted))) in
      record {
        enough = omega (arith, total, t.counted);
        count = ap length kids ∙ t.counted;
        two = omega (arith, t.two, t.counted);
        few = omega (arith, few, bytes, t.counted);
        ascending = subst (λ xs. IsAscending (key_bytes xs)) (sym kids) t.ascending;
        ordered = t.ordered;
        within = t.within;
        rooms = omega (arith, need, own);
      }

  pub rise-ready : (old now : NodeArena K V P) (next byte start end children : ℕ) (pending : List (ℕ × OpaqueNodePtr K V P)) (steps : List Step) (r : IsRising old now next pending (step.Inner byte start end children ∷ steps)) → IsReady now r.leads.0.1 pending start end children
  rise-ready old now next byte start end children pending steps r = ready now r.leads.0.1 r.stack pending byte start end children steps r.roots r.leads.3 r.rooms

  -- a node is made
  pub rise-inner : (old now new : NodeArena K V P) (next byte start end children : ℕ) (pending after : List (ℕ × OpaqueNodePtr K V P)) (steps : List Step) (at : OpaqueNodePtr K V P) (r : IsRising old now next pending (step.Inner byte start end children ∷ steps))
      → IsPlaced now new (kind_for (length (drop (length pending - children) pending))) (node_of P (take (end - start) (drop start r.leads.0.1)) (drop (length pending - children) pending)) at
      → after ≡ take (length pending - children) pending ++ (byte, at) ∷ [] → IsRising old new next after steps
  rise-inner old now new next byte start end children pending after steps at r p is_after =
      let t = r.leads.3 in
      let prefix = take (end - start) (drop start r.leads.0.1) in
      let split : pending ≡ branch_roots t.front ++ branch_roots t.branches = sym r.roots ∙ ap branch_roots t.splits ∙ roots-join t.front t.branches in
      let total = ap length split ∙ length-append (branch_roots t.front) (branch_roots t.branches) in
      let below : length (branch_roots t.front) ≡ length pending - children = omega (arith, total, t.counted) in
      let kids : drop (length pending - children) pending ≡ branch_roots t.branches = ap (drop (length pending - children)) split ∙ drop_at (branch_roots t.front) (branch_roots t.branches) (length pending - children) below in
      let others : take (length pending - children) pending ≡ branch_roots t.front = ap (take (length pending - children)) split ∙ take_at (branch_roots t.front) (branch_roots t.branches) (length pending - children) below in
      let tree = Inner at prefix t.branches in
      let one = one_branch byte tree in
      let q : IsPlaced now new (kind_for (length (branch_roots t.branches))) (node_of P prefix (branch_roots t.branches)) at = subst (λ kids. IsPlaced now new (kind_for (length kids)) (node_of P prefix kids) at) kids p in
      let keeps : (pointer : OpaqueNodePtr K V P) → held now pointer ≢ Nothing → held new pointer ≡ held now pointer = λ pointer was. q.changes.others pointer (λ same. was (ap (held now) same ∙ q.was_free)) in
      let stood = stand-split text now t.front t.branches (subst (AllStandIn text now) t.splits r.stands) in
      let each_smallest = smallest_kinds-split t.front t.branches (subst HaveSmallestKinds t.splits r.smallest_kinds) in
      let places_before : branch_places r.stack ≡ branch_places t.front ++ branch_places t.branches = ap branch_places t.splits ∙ places-join t.front t.branches in
      let rest = drop next pointers in
      let xs = branch_places r.stack ++ rest in
      let ys = branch_places (join t.front one) ++ rest in
      let later = branch_places t.branches ++ rest in
      let shape : ys ≡ branch_places t.front ++ at ∷ later = ap (λ z. z ++ rest) (places-join t.front one ∙ ap (λ z. branch_places t.front ++ (at ∷ z)) (append-nil (branch_places t.branches))) ∙ append_assoc (branch_places t.front) (at ∷ branch_places t.branches) rest in
      let shape_before : xs ≡ branch_places t.front ++ later = ap (λ z. z ++ rest) places_before ∙ append_assoc (branch_places t.front) (branch_places t.branches) rest in
      let same_leaves : branch_leaves (join t.front one) ≡ branch_leaves r.stack = leaves-join t.front one ∙ ap (λ z. branch_leaves t.front ++ z) (append-nil (branch_leaves t.branches)) ∙ sym (leaves-join t.front t.branches) ∙ ap branch_leaves (sym t.splits) in
      record {
        stack = join t.front one;
        roots = roots-join t.front one ∙ ap (λ z. z ++ (byte, at) ∷ []) (sym others) ∙ sym is_after;
        leads = r.leads.4 at;
        stands = stand-join text new t.front one (all-allocated text now new at _ t.front q.was_free q.changes stood.0)
            ((node_of P prefix (branch_roots t.branches), q.changes.changed, record { prefix_len = refl; stored = refl; children = refl }, all-allocated text now new at _ t.branches q.was_free q.changes stood.1), tt);
        smallest_kinds = smallest_kinds-join t.front one each_smallest.0 ((q.is_kind, each_smallest.1), tt);
        in_order = same_leaves ∙ r.in_order;
        kept = λ pointer was. let first = r.kept pointer was in keeps pointer (subst (λ h. h ≢ Nothing) (sym first) was) ∙ first;
        adds = λ before a. adds-more before now new at (HeldInner (node_of P prefix (branch_roots t.branches))) xs ys (r.adds before a) q.was_free q.changes (λ e. cc)
            (λ pointer inside. elim (one-or-other (branch_places t.front) later at pointer (subst (λ l. Contains l pointer) shape inside)) [ inl same ↦ inl same | inr other ↦ inr (subst (λ l. Contains l pointer) (sym shape_before) other) ])
            (subst (λ l. Contains l at) (sym shape) (one-there (branch_places t.front) later at at refl))
            (λ pointer inside. subst (λ l. Contains l pointer) (sym shape) (other-stays (branch_places t.front) later at pointer (subst (λ l. Contains l pointer) shape_before inside)));
        few = omega (arith, r.few, ap length r.roots, total, t.counted, t.two, ap length (roots-join t.front one), length-append (branch_roots t.front) ((byte, at) ∷ []));
        rooms = λ kind inner. elim (same_or_differ kind (kind_for (length (branch_roots t.branches)))) [
          | inr differ ↦ omega (arith, q.other_room kind differ, r.rooms kind inner, no-less (is_needed kind children) (needed kind steps))
          | inl same ↦
              let own = one-more (is_needed kind children) (needed kind steps) (ap (λ k. is_needed k children) (same ∙ ap kind_for t.counted) ∙ needed-own children (omega (arith, t.two, t.counted)) (ready now r.leads.0.1 r.stack pending byte start end children steps r.roots t r.rooms).few) in
              omega (arith, own, r.rooms kind inner, subst (λ k. room now k ≤ room new k + 1) (sym same) q.room)
        ];
      }

  -- the same as the code calls it
  pub rise-inner-called : (old now new : NodeArena K V P) (next byte start end children : ℕ) (pending after kids : List (ℕ × OpaqueNodePtr K V P)) (last : List ℕ) (steps : List Step) (at : OpaqueNodePtr K V P) (r : IsRising old now next pending (step.Inner byte start end children ∷ steps))
      → kids ≡ drop (length pending - children) pending → last ≡ r.leads.0.1 → IsPlaced now new (kind_for (length kids)) (node_of P (take (end - start) (drop start last)) kids) at
      → after ≡ take (length pending - children) pending ++ (byte, at) ∷ [] → IsRising old new next after steps
  rise-inner-called old now new next byte start end children pending after kids last steps at r is_kids is_last p is_after =
      rise-inner old now new next byte start end children pending after steps at r
      (subst (λ t. IsPlaced now new (kind_for (length (drop (length pending - children) pending))) (node_of P (take (end - start) (drop start t)) (drop (length pending - children) pending)) at) is_last
      (subst (λ k. IsPlaced now new (kind_for (length k)) (node_of P (take (end - start) (drop start last)) k) at) is_kids p)) is_after

  -- the next leaf is there, and so is the last one
  pub leaf-within : (old now : NodeArena K V P) (next byte : ℕ) (pending : List (ℕ × OpaqueNodePtr K V P)) (steps : List Step) → IsRising old now next pending (step.Leaf byte ∷ steps) → next < length pairs
  leaf-within old now next byte pending steps r = slice_get_within pairs next r.leads.0 r.leads.1

  pub inner-within : (old now : NodeArena K V P) (next byte start end children : ℕ) (pending : List (ℕ × OpaqueNodePtr K V P)) (steps : List Step) → IsRising old now next pending (step.Inner byte start end children ∷ steps) → (0 < next) × (next - 1 < length pairs)
  inner-within old now next byte start end children pending steps r = (r.leads.1, slice_get_within pairs (next - 1) r.leads.0 r.leads.2)

  pub few-pending : (old now : NodeArena K V P) (next : ℕ) (pending : List (ℕ × OpaqueNodePtr K V P)) (steps : List Step) → IsRising old now next pending steps → length pending ≤ next
  few-pending old now next pending steps r = omega (arith, r.few, ap length r.roots)

  -- after the last step one tree is pending
  pub one-pending : (old now : NodeArena K V P) (next : ℕ) (pending : List (ℕ × OpaqueNodePtr K V P)) (steps : List Step) (index : ℕ) → length steps ≤ index → IsRising old now next pending (drop index steps) → length pending ≡ 1
  one-pending old now next pending steps index past r =
      let done = subst (IsRising old now next pending) (drop_all index steps past) r in
      ap length (sym done.roots) ∙ ap (λ stack. length (branch_roots stack)) done.leads.3

  -- before the first step
  pub rising-none : (old : NodeArena K V P) (steps : List Step) (pending : List (ℕ × OpaqueNodePtr K V P)) → pending ≡ [] → Leads pairs 0 NoBranch steps → ((kind : NodeType) → kind ≢ LeafKind → needed kind steps ≤ room old kind) → IsRising old old 0 pending steps
  rising-none old steps pending none leads rooms = record { stack = NoBranch; roots = sym none; leads = leads; stands = tt; smallest_kinds = tt; in_order = refl; kept = λ pointer was. refl; adds = λ before a. a; few = omega arith; rooms = rooms }

module _ {K V : Type 0} {P : ℕ} (text : K → List ℕ) (old : NodeArena K V P) where
  pub texts-of-pairs : (of : List (LeafPtr K V P)) → map (λ (pair : OpaqueNodePtr K V P × List ℕ). pair.1) (leaf_pairs text old of) ≡ leaf_texts text old of
  texts-of-pairs [] = refl
  texts-of-pairs (leaf ∷ of) = ap (λ rest. text_at text old (slab_key leaf) ∷ rest) (texts-of-pairs of)

  pub pair-there : (of : List (LeafPtr K V P)) (i : ℕ) (d : LeafPtr K V P) → i < length of → slice_get (leaf_pairs text old of) i ≡ Some (leaf_pointer (get_or of i d), text_at text old (slab_key (get_or of i d)))
  pair-there [] i d lt = absurd (omega arith)
  pair-there (leaf ∷ of) zero d lt = refl
  pair-there (leaf ∷ of) (suc i) d lt = pair-there of i d (omega arith)

  pub pointer-there : (of : List (LeafPtr K V P)) (i : ℕ) (d : LeafPtr K V P) → i < length of → slice_get (map (leaf_pointer {K = K} {V = V} {P = P}) of) i ≡ Some (leaf_pointer (get_or of i d))
  pointer-there [] i d lt = absurd (omega arith)
  pointer-there (leaf ∷ of) zero d lt = refl
  pointer-there (leaf ∷ of) (suc i) d lt = pointer-there of i d (omega arith)

  pub texts-there : (of : List (LeafPtr K V P)) (i : ℕ) (d : LeafPtr K V P) → i < length of → get_or (leaf_texts text old of) i [] ≡ text_at text old (slab_key (get_or of i d))
  texts-there [] i d lt = absurd (omega arith)
  texts-there (leaf ∷ of) zero d lt = refl
  texts-there (leaf ∷ of) (suc i) d lt = texts-there of i d (omega arith)

  pub pairs-count : (of : List (LeafPtr K V P)) → length (leaf_pairs text old of) ≡ length of
  pairs-count [] = refl
  pairs-count (leaf ∷ of) = ap suc (pairs-count of)

-- what the next step finds, over the leaves themselves
module _ {K V : Type 0} {P : ℕ} (text : K → List ℕ) (old : NodeArena K V P) (of : List (LeafPtr K V P)) where
  abbrev Rising : NodeArena K V P → ℕ → List (ℕ × OpaqueNodePtr K V P) → List Step → Type 0
  Rising now next pending steps = IsRising text (leaf_pairs text old of) (map leaf_pointer of) old now next pending steps

  at_step : (now : NodeArena K V P) (next : ℕ) (pending : List (ℕ × OpaqueNodePtr K V P)) (steps : List Step) (index : ℕ) (d this : Step) → index < length steps → get_or steps index d ≡ this → Rising now next pending (drop index steps) → Rising now next pending (this ∷ drop (index + 1) steps)
  at_step now next pending steps index d this inside is rising = subst (Rising now next pending) (drop_more steps index d inside ∙ ap (λ s. s ∷ drop (index + 1) steps) is) rising

  pub at_leaf : (now : NodeArena K V P) (next : ℕ) (pending : List (ℕ × OpaqueNodePtr K V P)) (steps : List Step) (index : ℕ) (d : Step) (byte : ℕ) → index < length steps → get_or steps index d ≡ step.Leaf byte → Rising now next pending (drop index steps)
      → record {
        rising : Rising now next pending (step.Leaf byte ∷ drop (index + 1) steps);
        inside : next < length of;
        few : length pending ≤ next;
      }
  at_leaf now next pending steps index d byte below is before =
      let rising = at_step now next pending steps index d (step.Leaf byte) below is before in
      record {
        rising = rising;
        inside = omega (arith, leaf-within text _ _ old now next byte pending _ rising, pairs-count text old of);
        few = few-pending text _ _ old now next pending _ rising;
      }

  -- the last leaf that is below the node has the text that the step is about
  pub at_inner : (now : NodeArena K V P) (next : ℕ) (pending : List (ℕ × OpaqueNodePtr K V P)) (steps : List Step) (index : ℕ) (d : Step) (byte start end children : ℕ) → index < length steps → get_or steps index d ≡ step.Inner byte start end children → Rising now next pending (drop index steps) → HoldLeaves old of
      → record {
        rising : Rising now next pending (step.Inner byte start end children ∷ drop (index + 1) steps);
        some : 0 < next;
        inside : next - 1 < length of;
        few : length pending ≤ next;
        ready : IsReady text (leaf_pairs text old of) (map leaf_pointer of) now rising.leads.0.1 pending start end children;
        last : (leaf : LeafPtr K V P) → record {
          is_held : HoldsLeaf now (slab_key (get_or of (next - 1) leaf));
          before : get_or (leaf_texts text old of) (next - 1) [] ≡ rising.leads.0.1;
          now : text_at text now (slab_key (get_or of (next - 1) leaf)) ≡ rising.leads.0.1;
        };
      }
  at_inner now next pending steps index d byte start end children below is before leaves_held =
      let rising = at_step now next pending steps index d (step.Inner byte start end children) below is before in
      let within = inner-within text _ _ old now next byte start end children pending _ rising in
      let inside : next - 1 < length of = omega (arith, within.1, pairs-count text old of) in
      record {
        rising = rising;
        some = within.0;
        inside = inside;
        few = few-pending text _ _ old now next pending _ rising;
        ready = rise-ready text _ _ old now next byte start end children pending _ rising;
        last = λ leaf.
            let key = slab_key (get_or of (next - 1) leaf) in
            let same : text_at text old key ≡ rising.leads.0.1 = ap (λ p. p.1) (same_Some _ _ (sym (pair-there text old of (next - 1) leaf inside) ∙ rising.leads.2)) in
            let kept = text-kept text old now key (leaves_held (next - 1) leaf inside) rising.kept in
            record {
              is_held = kept.0;
              before = texts-there text old of (next - 1) leaf inside ∙ same;
              now = kept.1 ∙ same;
            };
      }

  -- after the last step the tree of all leaves stands
  pub risen : (now : NodeArena K V P) (next : ℕ) (pending : List (ℕ × OpaqueNodePtr K V P)) (steps : List Step) (index : ℕ) (first : ℕ × OpaqueNodePtr K V P) → length steps ≤ index → Rising now next pending (drop index steps)
      → first ≡ get_or pending 0 first → (tree : Tree (OpaqueNodePtr K V P)) × IsRaised text old now of first.1 tree
  risen now next pending steps index first past r here =
      let done = subst (Rising now next pending) (drop_all index steps past) r in
      let (whole, byte, tree, one, sound) = done.leads in
      let pairs = leaf_pairs text old of in
      let pointers = map (leaf_pointer {K = K} {V = V} {P = P}) of in
      let roots : (byte, root_of tree) ∷ [] ≡ pending = ap branch_roots (sym one) ∙ done.roots in
      let root_is : (byte, root_of tree) ≡ first = ap (λ xs. get_or xs 0 first) roots ∙ sym here in
      let none : drop next pointers ≡ [] = drop_all next pointers (omega (arith, whole, pairs-count text old of, length-map of (leaf_pointer {K = K} {V = V} {P = P}))) in
      let all : branch_places done.stack ++ drop next pointers ≡ places tree =
      ap (λ stack. branch_places stack ++ drop next pointers) one ∙ ap (λ rest. (places tree ++ []) ++ rest) none ∙ append-nil (places tree ++ []) ∙ append-nil (places tree) in (
        tree,
        record {
          at_root = ap (λ p. p.1) root_is;
          stands = (subst (AllStandIn text now) one done.stands).0;
          sound = sound;
          smallest_kinds = (subst HaveSmallestKinds one done.smallest_kinds).0;
          in_order = sym (append-nil (leaves tree)) ∙ ap branch_leaves (sym one) ∙ done.in_order ∙ take_all next pairs (omega (arith, whole));
          kept = done.kept;
          adds = λ before a. subst (Adds before now) all (done.adds before a);
        },
      )

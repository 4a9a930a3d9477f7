-- The list of entries after a page is put between others, or taken out.
use Rattle.std.proofs.Common.{◌≡◌, ◌≢◌, ◌∙◌, ℕ, List, [], ◌∷◌, ◌++◌, length, length-append, append_assoc, All, Contains, Option, Some, None, Result, Ok, Err, IfOk, OnErr, OnOk, refl, sym, ap, subst, arith}
use Rattle.std.proofs.lemmas.List.{map-append}
use Rattle.std.proofs.lemmas.List.Elements.{All-contains, All-head, All-tail, All-weaker, Contains-append_right}
use Rattle.std.proofs.lemmas.Option.{same_Some}
use Rattle.std.specs.Option.{option_map}
use Rattle.std.specs.Ordering.{match_ordering}
use Rattle.std.specs.declared.cmp.Ordering.TheVariants.{Less, Equal, Greater}
use Rattle.art_bytes.proofs.Members.{first_there}
use Rattle.art_bytes.proofs.TextLaws.{Ascend, ascend_rest, first_below, greater_turned, less_differs, less_turned, none_below, order_itself}
use Rattle.art_bytes.specs.Text.{text_order}
use Rattle.art_nodes.specs.Leaf.{leaf_key, leaf_value}
use Rattle.art_nodes.specs.declared.leaf_node.LeafNode.{LeafNode}
use Rattle.art_header.specs.declared.node_type.NodeType.TheVariants as kinds
use Rattle.art_arena.specs.Arena.{LeafPtr, NodeArena, held_leaf}
use Rattle.art_arena.specs.Links.{leaf_at}
use Rattle.art_nodes.specs.Pointers.{opaque_pointer, slab_key}
use Rattle.art_nodes.specs.declared.pointers.OpaqueNodePtr.{OpaqueNodePtr}
use Rattle.art_tree.proofs.EntryLaws.{are-entries, list-put, list-same, list-without, without-cases}
use Rattle.art_steps.specs.Art.{Art}
use Rattle.art_steps.specs.Dictionary.{IsEntry, SameOtherEntries, entry_at}
use Rattle.art_tree.specs.LeafRemoval.{TakesEntry}
use Rattle.art_steps.specs.Leaves.{KeepsOtherLeaves}
use Rattle.art_steps.specs.Removal.{IsLeft}
use Rattle.art_tree.specs.Entries.{entries_of, put_entry, without_text}
use Rattle.art_steps.specs.Refusals.{texts_of}
use Rattle.art_index.specs.Places.{AllTextsAbove, AllTextsBelow, IsPlaced, leaf_entry}
use Rattle.art_index.proofs.BranchLemmas.{all-unmapped}
use Rattle.art_index.proofs.PlaceLemmas.{parts-same, slot-of, some-mapped}

module _ {K V : Type 0} (text : K → List ℕ) where
  -- an entry is put between the entries below it and those above it
  pub put-between : (left right : List (K × V)) (entry : K × V) → AllTextsBelow text (text entry.0) left → AllTextsAbove text (text entry.0) right → put_entry text (left ++ right) entry ≡ left ++ entry ∷ right
  put-between [] [] entry below above = refl
  put-between [] (other ∷ right) entry below above =
      let less : text_order (text entry.0) (text other.0) ≡ Less = greater_turned (text other.0) (text entry.0) (All-head (λ o. text_order (text o.0) (text entry.0) ≡ Greater) other right above) in
      ap (λ o. match_ordering o (entry ∷ other ∷ right) (entry ∷ right) (other ∷ put_entry text right entry)) less
  put-between (other ∷ left) right entry below above =
      let more : text_order (text entry.0) (text other.0) ≡ Greater = less_turned (text other.0) (text entry.0) (All-head (λ o. text_order (text o.0) (text entry.0) ≡ Less) other left below) in
      ap (λ o. match_ordering o (entry ∷ other ∷ (left ++ right)) (entry ∷ (left ++ right)) (other ∷ put_entry text (left ++ right) entry)) more
      ∙ ap (λ l. other ∷ l) (put-between left right entry (All-tail (λ o. text_order (text o.0) (text entry.0) ≡ Less) other left below) above)

  -- where no entry has the text, none is taken out
  without-none : (entries : List (K × V)) (x : List ℕ) → All (λ o. text o.0 ≢ x) entries → without_text text entries x ≡ entries
  without-none [] x none = refl
  without-none (other ∷ entries) x none =
      without-cases text (λ l. l ≡ other ∷ entries) other entries x (λ same. absurd (All-head (λ o. text o.0 ≢ x) other entries none same))
      (λ differ. ap (λ l. other ∷ l) (without-none entries x (All-tail (λ o. text o.0 ≢ x) other entries none)))

  -- of entries that ascend the one with a text is taken out
  pub without-middle : (left right : List (K × V)) (entry : K × V) → Ascend (texts_of text (left ++ entry ∷ right)) → without_text text (left ++ entry ∷ right) (text entry.0) ≡ left ++ right
  without-middle [] right entry ascend =
      let above = all-unmapped (λ y. text_order (text entry.0) y ≡ Less) (λ o. text o.0) right (first_below (text entry.0) (texts_of text right) ascend) in
      let apart : All (λ o. text o.0 ≢ text entry.0) right = All-weaker (λ o. text_order (text entry.0) (text o.0) ≡ Less) (λ o. text o.0 ≢ text entry.0) (λ o less same. less_differs (text entry.0) (text o.0) less (sym same)) right above in
      without-cases text (λ l. l ≡ right) entry right (text entry.0) (λ same. without-none right (text entry.0) apart) (λ differ. absurd (differ refl))
  without-middle (other ∷ left) right entry ascend =
      let texts = texts_of text (left ++ entry ∷ right) in
      let inside : Contains texts (text entry.0) =
      subst (λ l. Contains l (text entry.0)) (sym (map-append (λ o. text o.0) left (entry ∷ right))) (Contains-append_right (texts_of text left) (text entry.0 ∷ texts_of text right) (text entry.0) (first_there (text entry.0) (text entry.0) (texts_of text right) refl)) in
      let less = none_below (text other.0) (text entry.0) texts ascend inside in
      without-cases text (λ l. l ≡ other ∷ (left ++ right)) other (left ++ entry ∷ right) (text entry.0) (λ same. absurd (less_differs (text other.0) (text entry.0) less same))
      (λ differ. ap (λ l. other ∷ l) (without-middle left right entry (ascend_rest (text other.0) texts ascend)))

  -- of entries that ascend each is below the next one
  below-next : (left : List (K × V)) (a b : K × V) (right : List (K × V)) → Ascend (texts_of text (left ++ a ∷ b ∷ right)) → text_order (text a.0) (text b.0) ≡ Less
  below-next [] a b right ascend = none_below (text a.0) (text b.0) (texts_of text (b ∷ right)) ascend (first_there (text b.0) (text b.0) (texts_of text right) refl)
  below-next (c ∷ left) a b right ascend = below-next left a b right (ascend_rest (text c.0) (texts_of text (left ++ a ∷ b ∷ right)) ascend)

-- key and value of a leaf make its entry
pub entry-read : {K V : Type 0} {P : ℕ} (o : Option (LeafNode K V P)) (key : K) (value : V) (entry : K × V) → option_map leaf_key o ≡ Some key → option_map leaf_value o ≡ Some value → option_map leaf_entry o ≡ Some entry → (key, value) ≡ entry
entry-read None key value entry at_key at_value at_entry = absurd (cc)
entry-read (Some leaf) key value entry at_key at_value at_entry =
    let same = same_Some (leaf_key leaf) key at_key in
    let same_value = same_Some (leaf_value leaf) value at_value in
    (λ i. (sym same i, sym same_value i)) ∙ same_Some (leaf_entry leaf) entry at_entry

module _ {K V : Type 0} {P : ℕ} (text : K → List ℕ) (old new : Art (NodeArena K V P) (OpaqueNodePtr K V P)) where
  -- the list after a page is added
  pub page-added : (anchor : K) (page : V) → IsEntry text new.arena (anchor, page) → SameOtherEntries text old.arena new.arena (text anchor) → (left right : List (K × V)) → entries_of text old.arena ≡ left ++ right → AllTextsBelow text (text anchor) left → AllTextsAbove text (text anchor) right → entries_of text new.arena ≡ left ++ (anchor, page) ∷ right
  page-added anchor page is others left right list below above =
      list-put text old.arena new.arena (anchor, page) is others ∙ ap (λ l. put_entry text l (anchor, page)) list ∙ put-between text left right (anchor, page) below above

  module _ (leaf : LeafPtr K V P) (here : IsPlaced text old.arena leaf) where
    own-entry : IsEntry text old.arena here.entry
    own-entry =
        let listed : Contains (entries_of text old.arena) here.entry = subst (λ l. Contains l here.entry) (sym here.list) (Contains-append_right here.left (here.entry ∷ here.right) here.entry (first_there here.entry here.entry here.right refl)) in
        All-contains (IsEntry text old.arena) (entries_of text old.arena) here.entry (are-entries text old.arena).each listed

    list-taken : entry_at text new.arena (text here.entry.0) ≡ None → SameOtherEntries text old.arena new.arena (text here.entry.0) → entries_of text new.arena ≡ here.left ++ here.right
    list-taken gone others =
        list-without text old.arena new.arena (text here.entry.0) gone others
        ∙ ap (λ l. without_text text l (text here.entry.0)) here.list
        ∙ without-middle text here.left here.right here.entry (subst (λ l. Ascend (texts_of text l)) here.list (are-entries text old.arena).ascending)

    -- the list after a page is taken out, and the page
    pub page-taken : {E : Type 0} (result : Result (K × V) E) (node : LeafNode K V P) → leaf_at old.arena (slab_key leaf) ≡ Some node → TakesEntry text old new (text (leaf_key node)) result → IfOk result (λ entry. (entry ≡ here.entry) × (entries_of text new.arena ≡ here.left ++ here.right))
    page-taken (Err error) node at takes = tt
    page-taken (Ok entry) node at takes =
        let same : leaf_entry node ≡ here.entry = same_Some (leaf_entry node) here.entry (sym (ap (option_map leaf_entry) at) ∙ here.holds) in
        let x_is : text (leaf_key node) ≡ text here.entry.0 = ap (λ e. text e.0) same in
        let removed : entry_at text old.arena (text here.entry.0) ≡ Some entry = subst (λ y. entry_at text old.arena y ≡ Some entry) x_is takes.removed in
        let left : IsLeft text old.arena new.arena (text here.entry.0) = subst (IsLeft text old.arena new.arena) x_is takes.left in
        (same_Some entry here.entry (sym removed ∙ own-entry), list-taken left.gone left.others)

    -- a leaf with another text holds its entry still
    still-holds : (other : LeafPtr K V P) (entry : K × V) → option_map leaf_entry (leaf_at old.arena (slab_key other)) ≡ Some entry → text entry.0 ≢ text here.entry.0
        → KeepsOtherLeaves text old.arena new.arena (text here.entry.0) → option_map leaf_entry (leaf_at new.arena (slab_key other)) ≡ Some entry
    still-holds other entry holds differ keeps =
        let (node, at, has) = some-mapped leaf_entry (leaf_at old.arena (slab_key other)) entry holds in
        let (now, found, same_key, same_value) =
        keeps (opaque_pointer kinds.Leaf (slab_key other)) node (ap (held_leaf {H = OpaqueNodePtr K V P}) at) (λ same. differ (sym (ap (λ e. text e.0) has) ∙ same)) in
        let same : leaf_entry now ≡ leaf_entry node = (λ i. (same_key i, same_value i)) in
        ap (option_map leaf_entry) (slot-of (leaf_at new.arena (slab_key other)) now found) ∙ ap Some (same ∙ has)

    -- and the leaf before it stays
    pub previous-stays : {E : Type 0} (result : Result (K × V) E) (node : LeafNode K V P) → leaf_at old.arena (slab_key leaf) ≡ Some node → TakesEntry text old new (text (leaf_key node)) result
        → (previous : LeafPtr K V P) (before : IsPlaced text old.arena previous) → before.right ≡ here.entry ∷ here.right
        → OnOk result ((now : IsPlaced text new.arena previous) × (now.left ≡ before.left) × (now.entry ≡ before.entry) × (now.right ≡ here.right))
    previous-stays (Err error) node at takes previous before next = tt
    previous-stays (Ok entry) node at takes previous before next =
        let same : leaf_entry node ≡ here.entry = same_Some (leaf_entry node) here.entry (sym (ap (option_map leaf_entry) at) ∙ here.holds) in
        let left : IsLeft text old.arena new.arena (text here.entry.0) = subst (IsLeft text old.arena new.arena) (ap (λ e. text e.0) same) takes.left in
        let list : entries_of text old.arena ≡ before.left ++ before.entry ∷ here.entry ∷ here.right = before.list ∙ ap (λ l. before.left ++ before.entry ∷ l) next in
        let whole = ap length (sym list ∙ here.list) in
        let long : length (before.left ++ before.entry ∷ []) ≡ length here.left =
        omega (arith, whole, length-append before.left (before.entry ∷ here.entry ∷ here.right), length-append here.left (here.entry ∷ here.right), length-append before.left (before.entry ∷ [])) in
        let parts = parts-same (before.left ++ before.entry ∷ []) (here.entry ∷ here.right) here.left (here.entry ∷ here.right) long
        (append_assoc before.left (before.entry ∷ []) (here.entry ∷ here.right) ∙ sym list ∙ here.list) in
        let less = below-next text before.left before.entry here.entry here.right (subst (λ l. Ascend (texts_of text l)) list (are-entries text old.arena).ascending) in
        let now : IsPlaced text new.arena previous = record {
          left = before.left;
          entry = before.entry;
          right = here.right;
          holds = still-holds previous before.entry before.holds (less_differs (text before.entry.0) (text here.entry.0) less) left.leaves;
          list = list-taken left.gone left.others ∙ ap (λ l. l ++ here.right) (sym parts.0) ∙ append_assoc before.left (before.entry ∷ []) here.right;
        } in
        (now, refl, refl, refl)

    pub list-kept : {E : Type 0} (result : Result (K × V) E) (node : LeafNode K V P) → TakesEntry text old new (text (leaf_key node)) result → OnErr result (entries_of text new.arena ≡ entries_of text old.arena)
    list-kept (Err error) node takes = list-same text old.arena new.arena takes.same_entries
    list-kept (Ok entry) node takes = tt

-- an entry is put in place of the one with its text
pub put-over : {K V : Type 0} (text : K → List ℕ) (left right : List (K × V)) (was now : K × V) → text now.0 ≡ text was.0 → Ascend (texts_of text (left ++ was ∷ right)) → put_entry text (left ++ was ∷ right) now ≡ left ++ now ∷ right
put-over text [] right was now same ascend =
    let equal : text_order (text now.0) (text was.0) ≡ Equal = ap (λ y. text_order y (text was.0)) same ∙ order_itself (text was.0) in
    ap (λ o. match_ordering o (now ∷ was ∷ right) (now ∷ right) (was ∷ put_entry text right now)) equal
put-over text (other ∷ left) right was now same ascend =
    let all = left ++ was ∷ right in
    let inside : Contains (texts_of text all) (text was.0) =
    subst (λ l. Contains l (text was.0)) (sym (map-append (λ o. text o.0) left (was ∷ right))) (Contains-append_right (texts_of text left) (text was.0 ∷ texts_of text right) (text was.0) (first_there (text was.0) (text was.0) (texts_of text right) refl)) in
    let less : text_order (text other.0) (text now.0) ≡ Less = ap (text_order (text other.0)) same ∙ none_below (text other.0) (text was.0) (texts_of text all) ascend inside in
    let more : text_order (text now.0) (text other.0) ≡ Greater = less_turned (text other.0) (text now.0) less in
    ap (λ o. match_ordering o (now ∷ other ∷ all) (now ∷ all) (other ∷ put_entry text all now)) more
    ∙ ap (λ l. other ∷ l) (put-over text left right was now same (ascend_rest (text other.0) (texts_of text all) ascend))

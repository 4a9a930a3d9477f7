-- Room in a map: what a cut does to the pages of a tree, and why its new page is not refused.
use Rattle.std.proofs.Common.{◌≡◌, ◌≢◌, ◌∙◌, ℕ, zero, suc, ◌+◌, ◌-◌, ◌/◌, ◌<◌, ◌≤◌, ◌^◌, List, [], ◌∷◌, ◌++◌, length, map, take, drop, All, Option, Some, None, cond, is_some, count_by, slice_index_or, slice_set, slice_get, append_assoc, take-append-drop, inl, inr, arith, refl, sym, ap, subst}
use Rattle.std.proofs.lemmas.List.{map-append}
use Rattle.std.proofs.lemmas.List.Sums.{sum_by-cons}
use Rattle.std.proofs.lemmas.Option.{same_Some}
use Rattle.std.proofs.lemmas.List.Elements.{All-nil, All-cons, All-contains}
use Rattle.std.specs.Cmp.{IsTotalOrder}
use Rattle.std.specs.Option.{option_map}
use Rattle.std.specs.declared.cmp.Ordering.{Ordering}
use Rattle.std.specs.declared.cmp.Ordering.TheVariants.{Less, Greater}
use Rattle.art_bytes.specs.Text.{text_order}
use Rattle.art_bytes.proofs.Members.{image_inside}
use Rattle.art_bytes.proofs.TextLaws.{greater_turned}
use Rattle.art_keys.specs.Encoding.{SortedBy}
use Rattle.art_header.specs.declared.node_type.NodeType.{NodeType}
use Rattle.art_header.specs.declared.node_type.NodeType.TheVariants as kinds
use Rattle.art_nodes.specs.Leaf.{with_value}
use Rattle.art_arena.specs.Arena.{LeafPtr, NodeArena, leaf_count, space}
use Rattle.art_arena.specs.Links.{with_value_at}
use Rattle.art_arena.specs.Trees.{texts}
use Rattle.art_pages.specs.Contents.{PageContents}
use Rattle.art_pages.specs.Entries.{IsIndexable, AreKeys}
use Rattle.art_tree.proofs.EntryLaws.{entry-listed, list-same}
use Rattle.art_steps.specs.Dictionary.{IsEntry, SameEntries}
use Rattle.art_tree.specs.Entries.{entries_of}
use Rattle.art_steps.specs.Insertion.{ClashesIn, IsRefused}
use Rattle.art_steps.specs.NodeCounts.{nodes_of}
use Rattle.art_steps.specs.Room.{HasEntryRoom, HasRoomOf}
use Rattle.art_steps.specs.declared.faults.InsertRefusal.{InsertRefusal}
use Rattle.art_steps.specs.declared.faults.InsertRefusal.TheVariants.{KeyTooLong, Prefix, OutOfMemory}
use Rattle.art_index.specs.Places.{AllTextsAbove, AllTextsBelow, IsPlaced}
use Rattle.art_index.proofs.BranchLemmas.{all-unmapped}
use Rattle.art_map.specs.Pages.{map_entries, AnchorsAbove, AreParted, IsEncoding, IsMap}
use Rattle.art_map.specs.Trees.{page_of, pages_of}
use Rattle.art_map.proofs.ChangeLemmas.{all-middle, all-put}
use Rattle.art_map.proofs.CutLemmas.{head-above, head-cut, head-cut-entries, page-above, page-cut, page-cut-entries}
use Rattle.art_map.proofs.TreeLemmas.{pages, pages-around, pages-changed}

module _ {K V : Type 0} where
  -- a list, cut before the entry of a key
  pub record IsCut (entries : List (K × V)) (place : ℕ) (key : K) : Type 0 where
    pub entry : K × V
    pub rest : List (K × V)
    pub upper : drop place entries ≡ entry ∷ rest
    pub key_is : entry.0 ≡ key

  pub cut-there : (entries : List (K × V)) (place : ℕ) (key : K) → option_map (λ entry. entry.0) (slice_get entries place) ≡ Some key → IsCut entries place key
  cut-there [] place key is = absurd (cc)
  cut-there (e ∷ entries) zero key is = record { entry = e; rest = entries; upper = refl; key_is = same_Some e.0 key is }
  cut-there (e ∷ entries) (suc place) key is =
      let cut = cut-there entries place key is in record { entry = cut.entry; rest = cut.rest; upper = cut.upper; key_is = cut.key_is }

  pub cut-whole : (entries : List (K × V)) (place : ℕ) (key : K) (cut : IsCut entries place key) → entries ≡ take place entries ++ cut.entry ∷ cut.rest
  cut-whole entries place key cut = sym (take-append-drop place entries) ∙ ap (λ l. take place entries ++ l) cut.upper

  -- what is below a place has a first entry
  pub front-there : (entries : List (K × V)) (place : ℕ) → 0 < place → place < length entries → (f : K × V) × (lower : List (K × V)) × (take place entries ≡ f ∷ lower)
  front-there [] place some within = absurd (omega (arith, within))
  front-there (e ∷ entries) zero some within = absurd (omega (arith, some))
  front-there (e ∷ entries) (suc place) some within = (e, take place entries, refl)

-- half of two or more is less, and not nothing
pub half-within : (len n : ℕ) → len ≡ n → 1 < n → len / 2 < n
half-within len n is more = omega (arith, is, more)

pub half-some : (len n : ℕ) → len ≡ n → 1 < n → 0 < len / 2
half-some len n is more = omega (arith, is, more)

-- another value in a leaf keeps room for entries
module _ {X : Type 0} (f : X → X) where
  count-cons : (o : Option X) (slots : List (Option X)) → count_by is_some (o ∷ slots) ≡ cond (is_some o) 1 0 + count_by is_some slots
  count-cons o slots = sum_by-cons (λ (o : Option X). cond (is_some o) 1 0) o slots

  count-changed : (slots : List (Option X)) (key : ℕ) → count_by is_some (slice_set slots key (option_map f (slice_index_or slots key None))) ≡ count_by is_some slots
  count-changed [] key = refl
  count-changed (None ∷ slots) zero = refl
  count-changed (Some x ∷ slots) zero = omega (arith, count-cons (Some x) slots, count-cons (Some (f x)) slots)
  count-changed (o ∷ slots) (suc key) =
      omega (arith, count-changed slots key, count-cons o slots, count-cons o (slice_set slots key (option_map f (slice_index_or slots key None))))

module _ {K V : Type 0} {P : ℕ} (arena : NodeArena K V P) (key : ℕ) (value : V) where
  as-many : leaf_count (with_value_at arena key value) ≡ leaf_count arena
  as-many = count-changed (λ leaf. with_value leaf value) arena.leaf.slots key

  same-space : (kind : NodeType) → space (with_value_at arena key value) kind ≡ space arena kind
  same-space kinds.Node4 = refl
  same-space kinds.Node16 = refl
  same-space kinds.Node48 = refl
  same-space kinds.Node256 = refl
  same-space kinds.Leaf = ap (λ count. (arena.leaf.capacity - count, arena.leaf.capacity)) as-many

  room-of : (kind : NodeType) (count : ℕ) → HasRoomOf kind arena count → HasRoomOf kind (with_value_at arena key value) count
  room-of kind count (inl enough) = inl (subst (λ n. count ≤ n) (sym (ap (λ (s : ℕ × ℕ). s.0) (same-space kind))) enough)
  room-of kind count (inr fits) =
      inr (λ tree sound few. subst (λ n. nodes_of kind tree ≤ n) (sym (ap (λ (s : ℕ × ℕ). s.1) (same-space kind)))
      (fits tree sound (subst (λ n. length (texts tree) ≤ n + count) as-many few)))

  pub room-kept : (count : ℕ) → HasEntryRoom arena count → HasEntryRoom (with_value_at arena key value) count
  room-kept count enough kind = room-of kind count (enough kind)

-- no refusal is due to an anchor of a map where there is room
module _ {K V : Type 0} {P : ℕ} (is_key : K → Type 0) (encoded : K → List ℕ) (arena : NodeArena (List ℕ) (PageContents K V) P)
    (anchors : All (λ page. IsEncoding is_key encoded page.0) (pages_of arena)) where
  own-encoding : (leaf : List ℕ × PageContents K V) → IsEntry (λ anchor. anchor) arena leaf → IsEncoding is_key encoded leaf.0
  own-encoding leaf is =
      All-contains (λ page. IsEncoding is_key encoded page.0) (pages_of arena) (page_of leaf) anchors
      (image_inside page_of (entries_of (λ anchor. anchor) arena) leaf (page_of leaf) refl (entry-listed (λ anchor. anchor) arena leaf is))

  not-due : (x : List ℕ) → length x < 2 ^ 32 → (¬ ClashesIn (λ anchor. anchor) arena x) → (refusal : InsertRefusal) → refusal ≢ OutOfMemory → IsRefused (λ anchor. anchor) arena x refusal → ⊥
  not-due x short apart KeyTooLong room due = omega (arith, short, due)
  not-due x short apart Prefix room due = apart due.1
  not-due x short apart OutOfMemory room due = room refl

  module _ (law : (key : K) → is_key key → ((leaf : List ℕ × PageContents K V) → IsEntry (λ anchor. anchor) arena leaf → IsEncoding is_key encoded leaf.0) → ¬ ClashesIn (λ anchor. anchor) arena (encoded key)) where
    pub key-never-refused : (key : K) → IsIndexable is_key encoded key → (anchor : List ℕ) → anchor ≡ encoded key
        → (refusal : InsertRefusal) → refusal ≢ OutOfMemory → IsRefused (λ anchor. anchor) arena anchor refusal → ⊥
    key-never-refused key key_is anchor is refusal room due =
        not-due (encoded key) key_is.1 (law key key_is.0 own-encoding) refusal room (subst (λ x. IsRefused (λ anchor. anchor) arena x refusal) is due)

    pub never-refused : (entries : List (K × V)) → AreKeys is_key encoded entries → (place : ℕ) (key : K) → option_map (λ entry. entry.0) (slice_get entries place) ≡ Some key
        → (anchor : List ℕ) → anchor ≡ encoded key → (refusal : InsertRefusal) → refusal ≢ OutOfMemory → IsRefused (λ anchor. anchor) arena anchor refusal → ⊥
    never-refused entries keys place key at =
        let cut = cut-there entries place key at in
        key-never-refused key (subst (IsIndexable is_key encoded) cut.key_is
        (all-middle (λ entry. IsIndexable is_key encoded entry.0) (take place entries) cut.entry cut.rest (subst (AreKeys is_key encoded) (cut-whole entries place key cut) keys)))

-- the anchors before a page are below its own
pub anchors-below : {K V : Type 0} (encoded : K → List ℕ) (before : List (K × V)) (left : List (List ℕ × List (K × V))) (page : List ℕ × List (K × V)) (right : List (List ℕ × List (K × V)))
    → AreParted encoded before (left ++ page ∷ right) → All (λ other. text_order other.0 page.0 ≡ Less) left
anchors-below encoded before [] page right parted = All-nil (λ other. text_order other.0 page.0 ≡ Less)
anchors-below encoded before (other ∷ left) page right parted =
    All-cons (λ other. text_order other.0 page.0 ≡ Less) other left
    (greater_turned page.0 other.0 (all-middle (λ page. text_order page.0 other.0 ≡ Greater) left page right parted.2))
    (anchors-below encoded (before ++ other.1) left page right parted.3)

module _ {K V : Type 0} (order cmp : K → K → Ordering) (same : order ≡ cmp) (total : IsTotalOrder cmp) (is_key : K → Type 0) (encoded : K → List ℕ)
    (sorted : (x y : K) → is_key x → is_key y → SortedBy (cmp x y) (encoded x) (encoded y)) {P : ℕ}
    (head : List (K × V)) (old new : NodeArena (List ℕ) (PageContents K V) P) (map_is : IsMap order is_key encoded head (pages_of old)) where
  -- the first page is cut, and its upper part is added to the tree
  module _ (place : ℕ) (key : K) (at : option_map (λ entry. entry.0) (slice_get head place) ≡ Some key) (anchor : List ℕ) (is : anchor ≡ encoded key)
      (page : PageContents K V) (upper : page.entries ≡ drop place head)
      (added : (left right : List (List ℕ × PageContents K V)) → entries_of (λ anchor. anchor) old ≡ left ++ right → AllTextsBelow (λ anchor. anchor) anchor left → AllTextsAbove (λ anchor. anchor) anchor right
      → entries_of (λ anchor. anchor) new ≡ left ++ (anchor, page) ∷ right) where
    cut : IsCut head place key
    cut = cut-there head place key at

    own : anchor ≡ encoded cut.entry.0
    own = is ∙ sym (ap encoded cut.key_is)

    whole : head ≡ take place head ++ cut.entry ∷ cut.rest
    whole = cut-whole head place key cut

    above : AnchorsAbove anchor (pages_of old)
    above = subst (λ x. AnchorsAbove x (pages_of old)) (sym own) (head-above order cmp same total is_key encoded sorted head (pages_of old) map_is (take place head) cut.entry cut.rest whole)

    now : pages_of new ≡ (encoded cut.entry.0, cut.entry ∷ cut.rest) ∷ pages_of old
    now =
        ap (map page_of) (added [] (entries_of (λ anchor. anchor) old) refl (All-nil (λ leaf. text_order leaf.0 anchor ≡ Less))
        (all-unmapped (λ page. text_order page.0 anchor ≡ Greater) page_of (entries_of (λ anchor. anchor) old) above))
        ∙ (λ i. (own i, (upper ∙ cut.upper) i) ∷ pages_of old)

    pub head-halves : IsMap order is_key encoded (take place head) (pages_of new)
    head-halves = subst (IsMap order is_key encoded (take place head)) (sym now) (head-cut order cmp same total is_key encoded sorted head (pages_of old) map_is (take place head) cut.entry cut.rest whole)

    pub head-halves-entries : map_entries (take place head) (pages_of new) ≡ map_entries head (pages_of old)
    head-halves-entries =
        ap (map_entries (take place head)) now
        ∙ head-cut-entries order cmp same total is_key encoded sorted head (pages_of old) map_is (take place head) cut.entry cut.rest whole

-- another page in a leaf keeps the anchors
module _ {K V : Type 0} {P : ℕ} (old new : NodeArena (List ℕ) (PageContents K V) P) (leaf : LeafPtr (List ℕ) (PageContents K V) P) (place : IsPlaced (λ anchor. anchor) old leaf) (page : PageContents K V)
    (changed : (now : IsPlaced (λ anchor. anchor) new leaf) × (now.left ≡ place.left) × (now.entry ≡ (place.entry.0, page)) × (now.right ≡ place.right)) where
  pub anchors-changed : (is_key : K → Type 0) (encoded : K → List ℕ) → All (λ page. IsEncoding is_key encoded page.0) (pages_of old) → All (λ page. IsEncoding is_key encoded page.0) (pages_of new)
  anchors-changed is_key encoded anchors =
      let around = subst (All (λ page. IsEncoding is_key encoded page.0)) (pages-around old leaf place) anchors in
      subst (All (λ page. IsEncoding is_key encoded page.0)) (sym (pages-changed old new leaf page place changed))
      (all-put (λ page. IsEncoding is_key encoded page.0) (pages place.left) (page_of place.entry) (place.entry.0, page.entries) (pages place.right) around
      (all-middle (λ page. IsEncoding is_key encoded page.0) (pages place.left) (page_of place.entry) (pages place.right) around))

  -- with the same entries the pages are the same
  pub pages-same : page.entries ≡ place.entry.1.entries → pages_of new ≡ pages_of old
  pages-same same = pages-changed old new leaf page place changed ∙ (λ i. pages place.left ++ (place.entry.0, same i) ∷ pages place.right) ∙ sym (pages-around old leaf place)

  leaves-changed : entries_of (λ anchor. anchor) new ≡ (place.left ++ (place.entry.0, page) ∷ []) ++ place.right
  leaves-changed = changed.0.list ∙ (λ i. changed.1 i ++ changed.2 i ∷ changed.3 i) ∙ sym (append_assoc place.left ((place.entry.0, page) ∷ []) place.right)

module _ {K V : Type 0} (order cmp : K → K → Ordering) (same : order ≡ cmp) (total : IsTotalOrder cmp) (is_key : K → Type 0) (encoded : K → List ℕ)
    (sorted : (x y : K) → is_key x → is_key y → SortedBy (cmp x y) (encoded x) (encoded y)) {P : ℕ}
    (head : List (K × V)) (old mid new : NodeArena (List ℕ) (PageContents K V) P) (map_is : IsMap order is_key encoded head (pages_of old))
    (leaf : LeafPtr (List ℕ) (PageContents K V) P) (place : IsPlaced (λ anchor. anchor) old leaf) (low : PageContents K V)
    (changed : (now : IsPlaced (λ anchor. anchor) mid leaf) × (now.left ≡ place.left) × (now.entry ≡ (place.entry.0, low)) × (now.right ≡ place.right))
    (middle : ℕ) (some : 0 < middle) (within : middle < length place.entry.1.entries) (low_is : low.entries ≡ take middle place.entry.1.entries)
    (key : K) (at : option_map (λ entry. entry.0) (slice_get place.entry.1.entries middle) ≡ Some key) (anchor : List ℕ) (is : anchor ≡ encoded key)
    (high : PageContents K V) (high_is : high.entries ≡ drop middle place.entry.1.entries)
    (added : (left right : List (List ℕ × PageContents K V)) → entries_of (λ anchor. anchor) mid ≡ left ++ right → AllTextsBelow (λ anchor. anchor) anchor left → AllTextsAbove (λ anchor. anchor) anchor right
    → entries_of (λ anchor. anchor) new ≡ left ++ (anchor, high) ∷ right) where
  -- the page of a leaf is cut, and its upper part is added to the tree
  halved : IsCut place.entry.1.entries middle key
  halved = cut-there place.entry.1.entries middle key at

  own-anchor : anchor ≡ encoded halved.entry.0
  own-anchor = is ∙ sym (ap encoded halved.key_is)

  front : (f : K × V) × (lower : List (K × V)) × (take middle place.entry.1.entries ≡ f ∷ lower)
  front = front-there place.entry.1.entries middle some within

  halves : place.entry.1.entries ≡ (front.0 ∷ front.1) ++ halved.entry ∷ halved.rest
  halves = cut-whole place.entry.1.entries middle key halved ∙ ap (λ l. l ++ halved.entry ∷ halved.rest) front.2

  low-entries : low.entries ≡ front.0 ∷ front.1
  low-entries = low_is ∙ front.2

  map-cut : IsMap order is_key encoded head (pages place.left ++ (place.entry.0, front.0 ∷ front.1) ∷ (encoded halved.entry.0, halved.entry ∷ halved.rest) ∷ pages place.right)
  map-cut =
      page-cut order cmp same total is_key encoded sorted head (pages_of old) map_is (pages place.left) (page_of place.entry) (pages place.right) (pages-around old leaf place)
      front.0 front.1 halved.entry halved.rest halves

  below : AllTextsBelow (λ anchor. anchor) anchor (place.left ++ (place.entry.0, low) ∷ [])
  below =
      let Below : List ℕ × List (K × V) → Type 0 = λ other. text_order other.0 anchor ≡ Less in
      all-unmapped Below page_of (place.left ++ (place.entry.0, low) ∷ [])
      (subst (All Below) (sym (map-append page_of place.left ((place.entry.0, low) ∷ []) ∙ (λ i. pages place.left ++ (place.entry.0, low-entries i) ∷ [])))
      (subst (λ x. All (λ other. text_order other.0 x ≡ Less) (pages place.left ++ (place.entry.0, front.0 ∷ front.1) ∷ [])) (sym own-anchor)
      (anchors-below encoded head (pages place.left ++ (place.entry.0, front.0 ∷ front.1) ∷ []) (encoded halved.entry.0, halved.entry ∷ halved.rest) (pages place.right)
      (subst (AreParted encoded head) (sym (append_assoc (pages place.left) ((place.entry.0, front.0 ∷ front.1) ∷ []) ((encoded halved.entry.0, halved.entry ∷ halved.rest) ∷ pages place.right))) map-cut.parted))))

  above-there : AllTextsAbove (λ anchor. anchor) anchor place.right
  above-there =
      all-unmapped (λ page. text_order page.0 anchor ≡ Greater) page_of place.right
      (subst (λ x. AnchorsAbove x (pages place.right)) (sym own-anchor)
      (page-above order cmp same total is_key encoded sorted head (pages_of old) map_is (pages place.left) (page_of place.entry) (pages place.right) (pages-around old leaf place)
      front.0 front.1 halved.entry halved.rest halves))

  now-pages : pages_of new ≡ pages place.left ++ (place.entry.0, front.0 ∷ front.1) ∷ (encoded halved.entry.0, halved.entry ∷ halved.rest) ∷ pages place.right
  now-pages =
      ap (map page_of) (added (place.left ++ (place.entry.0, low) ∷ []) place.right (leaves-changed old mid leaf place low changed) below above-there
      ∙ append_assoc place.left ((place.entry.0, low) ∷ []) ((anchor, high) ∷ place.right))
      ∙ map-append page_of place.left ((place.entry.0, low) ∷ (anchor, high) ∷ place.right)
      ∙ (λ i. pages place.left ++ (place.entry.0, low-entries i) ∷ (own-anchor i, (high_is ∙ halved.upper) i) ∷ pages place.right)

  pub page-halves : IsMap order is_key encoded head (pages_of new)
  page-halves = subst (IsMap order is_key encoded head) (sym now-pages) map-cut

  pub page-halves-entries : map_entries head (pages_of new) ≡ map_entries head (pages_of old)
  page-halves-entries =
      ap (map_entries head) now-pages
      ∙ page-cut-entries order cmp same total is_key encoded sorted head (pages_of old) map_is (pages place.left) (page_of place.entry) (pages place.right) (pages-around old leaf place)
      front.0 front.1 halved.entry halved.rest halves

-- with the same entries of the tree its pages are the same
pub pages-kept : {K V : Type 0} {P : ℕ} (old new : NodeArena (List ℕ) (PageContents K V) P) → SameEntries (λ anchor. anchor) old new → pages_of new ≡ pages_of old
pages-kept old new same = ap (map page_of) (list-same (λ anchor. anchor) old new same)

-- Where the entry of a query is: what is found there, and what a map is with another value there.
use Rattle.std.proofs.Common.{◌≡◌, ◌≢◌, ◌∙◌, ℕ, true, false, List, [], ◌∷◌, ◌++◌, Option, Some, None, Result, Ok, Err, IsSome, length, refl, sym, ap, subst}
use Rattle.std.proofs.lemmas.List.Elements.{All-nil}
use Rattle.std.proofs.lemmas.Map.{length-set_value}
use Rattle.std.specs.BTreeMap.{insert_entry, is_at}
use Rattle.std.specs.Map.{set_value}
use Rattle.std.specs.Option.{option_map}
use Rattle.std.specs.Prelude.{slice_get}
use Rattle.std.specs.declared.cmp.Ordering.{Ordering}
use Rattle.std.specs.declared.cmp.Ordering.TheVariants.{Greater}
use Rattle.art_bytes.specs.Text.{text_order}
use Rattle.art_arena.specs.Arena.{LeafPtr, NodeArena}
use Rattle.art_index.specs.Places.{IsPlaced}
use Rattle.art_pages.specs.Contents.{PageContents, set_value_at}
use Rattle.art_pages.specs.Entries.{IsPlaceOf, get_by}
use Rattle.art_pages.proofs.FoundLemmas.{get_by-found, get_by-gap}
use Rattle.art_pages.proofs.MiddleLemmas.{get_by-middle}
use Rattle.art_map.specs.Pages.{entries_in, map_entries, AnchorsAbove, IsMap, IsPageOf}
use Rattle.art_map.specs.Spots.{IsSpotInHead, IsSpotInLeaf, IsPageSpot}
use Rattle.art_map.specs.Trees.{page_of, pages_in, pages_of}
use Rattle.art_map.proofs.PartLemmas.{AgreesBy, above-head, below-page, above-page}
use Rattle.art_map.proofs.TreeLemmas.{pages, pages-around, pages-changed}
use Rattle.art_map.proofs.ValueLemmas.{entry-at, keys-set, value-at, set-middle, set-inserts, head-valued, page-valued, entries-beside}

-- the spot of a query
module _ {K V : Type 0} (order : K → K → Ordering) (is_key : K → Type 0) (encoded : K → List ℕ)
    (compare : K → Ordering) (x : List ℕ) (law : AgreesBy is_key encoded compare x) (head : List (K × V)) where
  pub spot-in-head : (pages : List (List ℕ × List (K × V))) → IsMap order is_key encoded head pages → AnchorsAbove x pages
      → (place : Result ℕ ℕ) → IsPlaceOf compare head place → IsSpotInHead compare x head pages place
  spot-in-head pages map above place at = record { at = at; behind = above-head is_key encoded compare x law order head pages map above; above = above }

  pub spot-in-leaf : {P : ℕ} (arena : NodeArena (List ℕ) (PageContents K V) P) (leaf : LeafPtr (List ℕ) (PageContents K V) P) → IsMap order is_key encoded head (pages_of arena)
      → (here : IsPlaced (λ anchor. anchor) arena leaf) → text_order here.entry.0 x ≢ Greater → AnchorsAbove x (pages here.right)
      → (place : Result ℕ ℕ) → IsPlaceOf compare here.entry.1.entries place → IsSpotInLeaf compare x head arena leaf place
  spot-in-leaf arena leaf map here low above place at =
      let is = pages-around arena leaf here in record {
        here = here;
        at = at;
        before = below-page is_key encoded compare x law order head (pages_of arena) map (pages here.left) (page_of here.entry) (pages here.right) is low above;
        behind = above-page is_key encoded compare x law order head (pages_of arena) map (pages here.left) (page_of here.entry) (pages here.right) is low above;
        low = low;
        above = above;
      }

  -- the same with another page in the leaf
  pub spot-changed : {P : ℕ} (old new : NodeArena (List ℕ) (PageContents K V) P) (leaf : LeafPtr (List ℕ) (PageContents K V) P) (page : PageContents K V) → IsMap order is_key encoded head (pages_of new)
      → (here : IsPlaced (λ anchor. anchor) old leaf) → text_order here.entry.0 x ≢ Greater → AnchorsAbove x (pages here.right)
      → (now : IsPlaced (λ anchor. anchor) new leaf) × (now.left ≡ here.left) × (now.entry ≡ (here.entry.0, page)) × (now.right ≡ here.right)
      → (place : Result ℕ ℕ) → IsPlaceOf compare page.entries place → IsSpotInLeaf compare x head new leaf place
  spot-changed old new leaf page map here low above now place at =
      spot-in-leaf new leaf map now.0
      (subst (λ (entry : List ℕ × PageContents K V). text_order entry.0 x ≢ Greater) (sym now.2) low)
      (subst (λ right. AnchorsAbove x (pages right)) (sym now.3) above)
      place (subst (λ (entry : List ℕ × PageContents K V). IsPlaceOf compare entry.1.entries place) (sym now.2) at)

-- what is there
module _ {K V : Type 0} (compare : K → Ordering) (x : List ℕ) (head : List (K × V)) where
  module _ (pages : List (List ℕ × List (K × V))) where
    same-in-head : (place : Result ℕ ℕ) → IsSpotInHead compare x head pages place → get_by compare (map_entries head pages) ≡ get_by compare head
    same-in-head place spot = get_by-middle compare [] head (entries_in pages) (All-nil (λ entry. compare entry.0 ≡ Greater)) spot.behind

    pub head-page : (place : Result ℕ ℕ) → IsSpotInHead compare x head pages place → IsPageOf compare head (map_entries head pages)
    head-page place spot = record {
      before = [];
      after = entries_in pages;
      is = refl;
      below = All-nil (λ entry. compare entry.0 ≡ Greater);
      above = spot.behind;
    }

    pub none-in-head : (place : ℕ) → IsSpotInHead compare x head pages (Err place) → get_by compare (map_entries head pages) ≡ None
    none-in-head place spot = same-in-head (Err place) spot ∙ get_by-gap compare head place spot.at

    pub value-in-head : (place : ℕ) → IsSpotInHead compare x head pages (Ok place) → (value : V) → option_map (λ entry. entry.1) (slice_get head place) ≡ Some value
        → get_by compare (map_entries head pages) ≡ Some value
    value-in-head place spot value some = same-in-head (Ok place) spot ∙ value-at compare head place value spot.at some

    pub set-in-head : (place : ℕ) → IsSpotInHead compare x head pages (Ok place) → (value : V)
        → map_entries (set_value_at head place value) pages ≡ set_value (is_at compare) (map_entries head pages) value
    set-in-head place spot value = sym (set-middle compare [] head (entries_in pages) (All-nil (λ entry. compare entry.0 ≡ Greater)) spot.behind place spot.at value)

  module _ {P : ℕ} (arena : NodeArena (List ℕ) (PageContents K V) P) (leaf : LeafPtr (List ℕ) (PageContents K V) P) where
    whole : (here : IsPlaced (λ anchor. anchor) arena leaf) → map_entries head (pages_of arena) ≡ (head ++ entries_in (pages here.left)) ++ (here.entry.1.entries ++ entries_in (pages here.right))
    whole here =
        entries-beside head (pages_of arena) (pages here.left) (page_of here.entry) (pages here.right) (pages-around arena leaf here)
        (pages_of arena) here.entry.1.entries (pages-around arena leaf here)

    pub leaf-page : (place : Result ℕ ℕ) → (spot : IsSpotInLeaf compare x head arena leaf place) → IsPageOf compare spot.here.entry.1.entries (map_entries head (pages_of arena))
    leaf-page place spot = record {
      before = head ++ entries_in (pages spot.here.left);
      after = entries_in (pages spot.here.right);
      is = whole spot.here;
      below = spot.before;
      above = spot.behind;
    }

    same-in-leaf : (place : Result ℕ ℕ) → (spot : IsSpotInLeaf compare x head arena leaf place) → get_by compare (map_entries head (pages_of arena)) ≡ get_by compare spot.here.entry.1.entries
    same-in-leaf place spot =
        ap (get_by compare) (whole spot.here)
        ∙ get_by-middle compare (head ++ entries_in (pages spot.here.left)) spot.here.entry.1.entries (entries_in (pages spot.here.right)) spot.before spot.behind

    pub none-in-leaf : (place : ℕ) → IsSpotInLeaf compare x head arena leaf (Err place) → get_by compare (map_entries head (pages_of arena)) ≡ None
    none-in-leaf place spot = same-in-leaf (Err place) spot ∙ get_by-gap compare spot.here.entry.1.entries place spot.at

    pub value-in-leaf : (place : ℕ) → (spot : IsSpotInLeaf compare x head arena leaf (Ok place)) → (value : V)
        → option_map (λ entry. entry.1) (slice_get spot.here.entry.1.entries place) ≡ Some value → get_by compare (map_entries head (pages_of arena)) ≡ Some value
    value-in-leaf place spot value some = same-in-leaf (Ok place) spot ∙ value-at compare spot.here.entry.1.entries place value spot.at some

    -- with a page that has another value there
    module _ (new : NodeArena (List ℕ) (PageContents K V) P) (page : PageContents K V) where
      pub set-in-leaf : (place : ℕ) → (spot : IsSpotInLeaf compare x head arena leaf (Ok place)) → (value : V) → page.entries ≡ set_value_at spot.here.entry.1.entries place value
          → (now : IsPlaced (λ anchor. anchor) new leaf) × (now.left ≡ spot.here.left) × (now.entry ≡ (spot.here.entry.0, page)) × (now.right ≡ spot.here.right)
          → map_entries head (pages_of new) ≡ set_value (is_at compare) (map_entries head (pages_of arena)) value
      set-in-leaf place spot value is now =
          let here = spot.here in
          entries-beside head (pages_of arena) (pages here.left) (page_of here.entry) (pages here.right) (pages-around arena leaf here)
          (pages_of new) page.entries (pages-changed arena new leaf page here now)
          ∙ ap (λ l. (head ++ entries_in (pages here.left)) ++ (l ++ entries_in (pages here.right))) is
          ∙ sym (set-middle compare (head ++ entries_in (pages here.left)) here.entry.1.entries (entries_in (pages here.right)) spot.before spot.behind place spot.at value)
          ∙ ap (λ l. set_value (is_at compare) l value) (sym (whole here))

      pub map-in-leaf : (order : K → K → Ordering) (is_key : K → Type 0) (encoded : K → List ℕ) → IsMap order is_key encoded head (pages_of arena)
          → (place : ℕ) → (spot : IsSpotInLeaf compare x head arena leaf (Ok place)) → (value : V) → page.entries ≡ set_value_at spot.here.entry.1.entries place value
          → (now : IsPlaced (λ anchor. anchor) new leaf) × (now.left ≡ spot.here.left) × (now.entry ≡ (spot.here.entry.0, page)) × (now.right ≡ spot.here.right)
          → IsMap order is_key encoded head (pages_of new)
      map-in-leaf order is_key encoded map place spot value is now =
          let here = spot.here in
          page-valued order is_key encoded head (pages_of arena) map (pages here.left) (page_of here.entry) (pages here.right) (pages-around arena leaf here)
          (set_value_at here.entry.1.entries place value) (keys-set here.entry.1.entries place value) (pages_of new)
          (pages-changed arena new leaf page here now ∙ ap (λ l. pages here.left ++ (here.entry.0, l) ∷ pages here.right) is)

-- a map, and how many entries it has, with another value there
module _ {K V : Type 0} (order : K → K → Ordering) (is_key : K → Type 0) (encoded : K → List ℕ) (compare : K → Ordering) (x : List ℕ) (head : List (K × V)) (place len : ℕ) (value : V) where
  pub kept-in-head : (pages : List (List ℕ × List (K × V))) → IsMap order is_key encoded head pages × (len ≡ length (map_entries head pages)) → IsSpotInHead compare x head pages (Ok place)
      → IsMap order is_key encoded (set_value_at head place value) pages × (len ≡ length (map_entries (set_value_at head place value) pages))
  kept-in-head pages kept spot = (
    head-valued order is_key encoded head pages kept.0 (set_value_at head place value) (keys-set head place value),
    kept.1 ∙ sym (length-set_value (is_at compare) (map_entries head pages) value) ∙ ap length (sym (set-in-head compare x head pages place spot value)),
  )

  pub kept-in-leaf : {P : ℕ} (arena new : NodeArena (List ℕ) (PageContents K V) P) (leaf : LeafPtr (List ℕ) (PageContents K V) P) (page : PageContents K V)
      → IsMap order is_key encoded head (pages_of arena) × (len ≡ length (map_entries head (pages_of arena))) → (spot : IsSpotInLeaf compare x head arena leaf (Ok place))
      → page.entries ≡ set_value_at spot.here.entry.1.entries place value
      → (now : IsPlaced (λ anchor. anchor) new leaf) × (now.left ≡ spot.here.left) × (now.entry ≡ (spot.here.entry.0, page)) × (now.right ≡ spot.here.right)
      → IsMap order is_key encoded head (pages_of new) × (len ≡ length (map_entries head (pages_of new)))
  kept-in-leaf arena new leaf page kept spot is now = (
    map-in-leaf compare x head arena leaf new page order is_key encoded kept.0 place spot value is now,
    kept.1 ∙ sym (length-set_value (is_at compare) (map_entries head (pages_of arena)) value) ∙ ap length (sym (set-in-leaf compare x head arena leaf new page place spot value is now)),
  )

-- a value set where a key is found is an insert
module _ {K V : Type 0} (cmp : K → K → Ordering) (key : K) (x : List ℕ) (head : List (K × V)) (place : ℕ) (value : V) where
  pub insert-in-head : (pages : List (List ℕ × List (K × V))) → IsSpotInHead (cmp key) x head pages (Ok place)
      → set_value (is_at (cmp key)) (map_entries head pages) value ≡ insert_entry cmp (map_entries head pages) key value
  insert-in-head pages spot = set-inserts cmp key [] head (entries_in pages) (All-nil (λ entry. cmp key entry.0 ≡ Greater)) spot.behind place spot.at value

  pub insert-in-leaf : {P : ℕ} (arena : NodeArena (List ℕ) (PageContents K V) P) (leaf : LeafPtr (List ℕ) (PageContents K V) P) → IsSpotInLeaf (cmp key) x head arena leaf (Ok place)
      → set_value (is_at (cmp key)) (map_entries head (pages_of arena)) value ≡ insert_entry cmp (map_entries head (pages_of arena)) key value
  insert-in-leaf arena leaf spot =
      let here = spot.here in let is = whole (cmp key) x head arena leaf here in
      ap (λ l. set_value (is_at (cmp key)) l value) is
      ∙ set-inserts cmp key (head ++ entries_in (pages here.left)) here.entry.1.entries (entries_in (pages here.right)) spot.before spot.behind place spot.at value
      ∙ ap (λ l. insert_entry cmp l key value) (sym is)

-- the same wherever it is
module _ {K V T : Type 0} {P : ℕ} (arena : T → NodeArena (List ℕ) (PageContents K V) P) (x : List ℕ) (head : List (K × V)) where
  -- the entries of a map
  abbrev all-of : Option T → List (K × V)
  all-of tree = map_entries head (pages_in (λ t. pages_of (arena t)) tree)

  pub spot-head : (compare : K → Ordering) (place : Result ℕ ℕ) (tree : Option T) → IsPageSpot compare x head arena tree None place
      → IsSpotInHead compare x head (pages_in (λ t. pages_of (arena t)) tree) place
  spot-head compare place None spot = spot
  spot-head compare place (Some tree) spot = spot

  pub spot-alone : (compare : K → Ordering) (place : Result ℕ ℕ) (leaf : Option (LeafPtr (List ℕ) (PageContents K V) P)) → IsPageSpot compare x head arena None leaf place
      → (leaf ≡ None) × IsSpotInHead compare x head [] place
  spot-alone compare place None spot = (refl, spot)
  spot-alone compare place (Some leaf) spot = absurd spot

  module _ (compare : K → Ordering) (place : ℕ) where
    pub spot-none : (tree : Option T) (leaf : Option (LeafPtr (List ℕ) (PageContents K V) P)) → IsPageSpot compare x head arena tree leaf (Err place) → get_by compare (all-of tree) ≡ None
    spot-none None None spot = none-in-head compare x head [] place spot
    spot-none None (Some leaf) spot = absurd spot
    spot-none (Some tree) None spot = none-in-head compare x head (pages_of (arena tree)) place spot
    spot-none (Some tree) (Some leaf) spot = none-in-leaf compare x head (arena tree) leaf place spot

    some-of : (entries all : List (K × V)) → get_by compare all ≡ get_by compare entries → IsPlaceOf compare entries (Ok place) → IsSome (get_by compare all)
    some-of entries all same at =
        let (entry, is) = entry-at entries place at.0 in
        subst IsSome (sym (same ∙ get_by-found compare entries place entry at is)) refl

    pub spot-some : (tree : Option T) (leaf : Option (LeafPtr (List ℕ) (PageContents K V) P)) → IsPageSpot compare x head arena tree leaf (Ok place) → IsSome (get_by compare (all-of tree))
    spot-some None None spot = some-of head (all-of None) (same-in-head compare x head [] (Ok place) spot) spot.at
    spot-some None (Some leaf) spot = absurd spot
    spot-some (Some tree) None spot = some-of head (all-of (Some tree)) (same-in-head compare x head (pages_of (arena tree)) (Ok place) spot) spot.at
    spot-some (Some tree) (Some leaf) spot = some-of spot.here.entry.1.entries (all-of (Some tree)) (same-in-leaf compare x head (arena tree) leaf (Ok place) spot) spot.at

    pub spot-absent : (tree : Option T) (leaf : Option (LeafPtr (List ℕ) (PageContents K V) P)) → IsPageSpot compare x head arena tree leaf (Ok place) → get_by compare (all-of tree) ≡ None → ⊥
    spot-absent tree leaf spot none = let wrong : false ≡ true = subst IsSome none (spot-some tree leaf spot) in absurd (cc)

  module _ (cmp : K → K → Ordering) (key : K) (place : ℕ) where
    pub spot-inserts : (tree : Option T) (leaf : Option (LeafPtr (List ℕ) (PageContents K V) P)) → IsPageSpot (cmp key) x head arena tree leaf (Ok place) → (value : V)
        → set_value (is_at (cmp key)) (all-of tree) value ≡ insert_entry cmp (all-of tree) key value
    spot-inserts None None spot value = insert-in-head cmp key x head place value [] spot
    spot-inserts None (Some leaf) spot value = absurd spot
    spot-inserts (Some tree) None spot value = insert-in-head cmp key x head place value (pages_of (arena tree)) spot
    spot-inserts (Some tree) (Some leaf) spot value = insert-in-leaf cmp key x head place value (arena tree) leaf spot

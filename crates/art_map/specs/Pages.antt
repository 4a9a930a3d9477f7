-- A map by pages, seen as the list of its entries.
use Rattle.std.specs.Prelude.{◌≡◌, ◌≢◌, ℕ, List, [], ◌∷◌, ◌++◌, All}
use Rattle.std.specs.declared.cmp.Ordering.{Ordering}
use Rattle.std.specs.declared.cmp.Ordering.TheVariants.{Less, Greater}
use Rattle.art_bytes.specs.Text.{text_order}
use Rattle.art_pages.specs.Entries.{IsOrdered, AreKeys, AllBelow, AllAbove}

module _ {K V : Type 0} where
  -- the entries of pages, one page after another; a page is seen as its anchor, a text, and its entries
  abbrev pub entries_in : List (List ℕ × List (K × V)) → List (K × V)
  entries_in [] = []
  entries_in (page ∷ pages) = page.1 ++ entries_in pages

  -- the entries of a map: those of its first page, and those of the pages in its tree
  abbrev pub map_entries : List (K × V) → List (List ℕ × List (K × V)) → List (K × V)
  map_entries head pages = head ++ entries_in pages

  -- the anchor of each of these pages is above a text
  abbrev pub AnchorsAbove : List ℕ → List (List ℕ × List (K × V)) → Type 0
  AnchorsAbove x pages = All (λ page. text_order page.0 x ≡ Greater) pages

  -- the anchor of each of these pages is below a text
  abbrev pub AnchorsBelow : List ℕ → List (List ℕ × List (K × V)) → Type 0
  AnchorsBelow x pages = All (λ page. text_order page.0 x ≡ Less) pages

module _ {K V : Type 0} (encoded : K → List ℕ) where
  -- the encoding of each key is below a text
  abbrev pub KeysBelow : List ℕ → List (K × V) → Type 0
  KeysBelow x entries = All (λ entry. text_order (encoded entry.0) x ≡ Less) entries

  -- the encoding of no key is below a text
  abbrev pub KeysFrom : List ℕ → List (K × V) → Type 0
  KeysFrom x entries = All (λ entry. text_order (encoded entry.0) x ≢ Less) entries

  -- the anchors ascend, and each parts the entries: those before its page are below it, those from its page on are not
  abbrev pub AreParted : List (K × V) → List (List ℕ × List (K × V)) → Type 0
  AreParted before [] = Unit {0}
  AreParted before (page ∷ pages) =
      KeysBelow page.0 before × KeysFrom page.0 (page.1 ++ entries_in pages) × AnchorsAbove page.0 pages × AreParted (before ++ page.1) pages

-- a text is the encoding of a key
abbrev pub IsEncoding : {K : Type 0} → (K → Type 0) → (K → List ℕ) → List ℕ → Type 0
IsEncoding {K} is_key encoded x = (key : K) × is_key key × (x ≡ encoded key)

module _ {K V : Type 0} (order : K → K → Ordering) (is_key : K → Type 0) (encoded : K → List ℕ) where
  -- the entries of a map by pages ascend, and each page has those from its anchor on to the next one
  pub record IsMap (head : List (K × V)) (pages : List (List ℕ × List (K × V))) : Type 0 where
    pub ordered : IsOrdered order (map_entries head pages)
    pub keys : AreKeys is_key encoded (map_entries head pages)
    pub parted : AreParted encoded head pages
    pub anchors : All (λ page. IsEncoding is_key encoded page.0) pages

-- these entries are a part of a list: the entries before them are below a query, and those behind them above it
pub record IsPageOf {K V : Type 0} (compare : K → Ordering) (page entries : List (K × V)) : Type 0 where
  pub before : List (K × V)
  pub after : List (K × V)
  pub is : entries ≡ before ++ (page ++ after)
  pub below : AllBelow compare before
  pub above : AllAbove compare after

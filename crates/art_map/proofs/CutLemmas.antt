-- A page that is cut in two: the encoding of the first key of the upper part is an anchor between both.
use Rattle.std.proofs.Common.{◌≡◌, ◌≢◌, ◌∙◌, ℕ, List, [], ◌∷◌, ◌++◌, All, append_assoc, refl, sym, ap, subst}
use Rattle.std.proofs.lemmas.List.Elements.{All-nil, All-cons, All-head, All-tail}
use Rattle.std.specs.Cmp.{IsTotalOrder}
use Rattle.std.specs.Cmp.Lexicographic.{nat_list_cmp_total}
use Rattle.std.proofs.lemmas.Cmp.{tied_itself}
use Rattle.std.specs.declared.cmp.Ordering.{Ordering}
use Rattle.std.specs.declared.cmp.Ordering.TheVariants.{Less, Equal, Greater}
use Rattle.art_bytes.specs.Text.{text_order}
use Rattle.art_bytes.proofs.TextLaws.{same_order, less_turned, greater_turned}
use Rattle.art_keys.specs.Encoding.{SortedBy}
use Rattle.art_keys.specs.EncodingLaws.{order_of_encodings}
use Rattle.art_pages.specs.Entries.{IsOrdered, IsIndexable, AreKeys, AllBelow, AllAbove}
use Rattle.art_pages.proofs.OrderLemmas.{ordered-right, ordered-same, above-first, below-entry}
use Rattle.art_map.specs.Pages.{entries_in, map_entries, AnchorsAbove, KeysBelow, KeysFrom, AreParted, IsEncoding, IsMap}
use Rattle.art_map.proofs.PartLemmas.{All-left, All-right, parted-at, greater-through}
use Rattle.art_map.proofs.ChangeLemmas.{AreOver, entries-around, parted-cut, parted-over, over-page, all-cut, all-middle}

-- above a text that is not below another is above that one
pub rises : (x y z : List ℕ) (o : Ordering) → text_order y z ≡ o → text_order y z ≢ Less → text_order x y ≡ Greater → text_order x z ≡ Greater
rises x y z Less is from above = absurd (from is)
rises x y z Equal is from above = subst (λ w. text_order x w ≡ Greater) (same_order y z is) above
rises x y z Greater is from above = greater-through x y z Greater above (λ less. absurd (cc)) is

module _ {K : Type 0} (cmp : K → K → Ordering) (is_key : K → Type 0) (encoded : K → List ℕ) (sorted : (x y : K) → is_key x → is_key y → SortedBy (cmp x y) (encoded x) (encoded y)) where
  -- encodings stand in the order of their keys
  order-is : (x y : K) → is_key x → is_key y → (o : Ordering) → cmp x y ≡ o → text_order (encoded x) (encoded y) ≡ o
  order-is x y x_is y_is o is = sym (order_of_encodings (cmp x y) (encoded x) (encoded y) (sorted x y x_is y_is)) ∙ is

module _ {K V : Type 0} (order cmp : K → K → Ordering) (same : order ≡ cmp) (total : IsTotalOrder cmp) (is_key : K → Type 0) (encoded : K → List ℕ)
    (sorted : (x y : K) → is_key x → is_key y → SortedBy (cmp x y) (encoded x) (encoded y)) where
  -- what stands before a key is below its encoding
  pub below-encoding : (key : K) → is_key key → (entries : List (K × V)) → AreKeys is_key encoded entries → AllBelow (cmp key) entries → KeysBelow encoded (encoded key) entries
  below-encoding key key_is [] keys below = All-nil (λ entry. text_order (encoded entry.0) (encoded key) ≡ Less)
  below-encoding key key_is (x ∷ entries) keys below =
      All-cons (λ entry. text_order (encoded entry.0) (encoded key) ≡ Less) x entries
      (greater_turned (encoded key) (encoded x.0) (order-is cmp is_key encoded sorted key x.0 key_is (All-head (λ entry. IsIndexable is_key encoded entry.0) x entries keys).0 Greater (All-head (λ entry. cmp key entry.0 ≡ Greater) x entries below)))
      (below-encoding key key_is entries (All-tail (λ entry. IsIndexable is_key encoded entry.0) x entries keys) (All-tail (λ entry. cmp key entry.0 ≡ Greater) x entries below))

  -- what stands behind it is not
  from-encoding : (e : K × V) → is_key e.0 → (entries : List (K × V)) → AreKeys is_key encoded entries → AllAbove (cmp e.0) entries → KeysFrom encoded (encoded e.0) entries
  from-encoding e e_is [] keys above = All-nil (λ entry. text_order (encoded entry.0) (encoded e.0) ≢ Less)
  from-encoding e e_is (x ∷ entries) keys above =
      All-cons (λ entry. text_order (encoded entry.0) (encoded e.0) ≢ Less) x entries
      (not-less (text_order (encoded x.0) (encoded e.0))
      (less_turned (encoded e.0) (encoded x.0) (order-is cmp is_key encoded sorted e.0 x.0 e_is (All-head (λ entry. IsIndexable is_key encoded entry.0) x entries keys).0 Less (All-head (λ entry. cmp e.0 entry.0 ≡ Less) x entries above))))
      (from-encoding e e_is entries (All-tail (λ entry. IsIndexable is_key encoded entry.0) x entries keys) (All-tail (λ entry. cmp e.0 entry.0 ≡ Less) x entries above))
    where
      not-less : (o : Ordering) → o ≡ Greater → o ≢ Less
      not-less o greater less = cc

  -- the encoding of an entry's key parts the entries of an ascending list there
  module _ (before : List (K × V)) (e : K × V) (after : List (K × V)) (ordered : IsOrdered order (before ++ e ∷ after)) (keys : AreKeys is_key encoded (before ++ e ∷ after)) where
    by-cmp : IsOrdered cmp (before ++ e ∷ after)
    by-cmp = ordered-same order cmp (before ++ e ∷ after) same ordered

    from : AreKeys is_key encoded (e ∷ after)
    from = All-right (λ entry. IsIndexable is_key encoded entry.0) before (e ∷ after) keys

    pub is-indexable : IsIndexable is_key encoded e.0
    is-indexable = All-head (λ entry. IsIndexable is_key encoded entry.0) e after from

    pub parts-below : KeysBelow encoded (encoded e.0) before
    parts-below = below-encoding e.0 is-indexable.0 before (All-left (λ entry. IsIndexable is_key encoded entry.0) before (e ∷ after) keys) (below-entry cmp total before e after by-cmp)

    pub parts-from : KeysFrom encoded (encoded e.0) (e ∷ after)
    parts-from =
        All-cons (λ entry. text_order (encoded entry.0) (encoded e.0) ≢ Less) e after
        (not-itself (text_order (encoded e.0) (encoded e.0)) (tied_itself nat_list_cmp_total (encoded e.0)))
        (from-encoding e is-indexable.0 after (All-tail (λ entry. IsIndexable is_key encoded entry.0) e after from) (above-first cmp e after (ordered-right cmp before (e ∷ after) by-cmp)))
      where
        not-itself : (o : Ordering) → o ≡ Equal → o ≢ Less
        not-itself o equal less = cc

  -- the anchors of pages that are above the page of an entry are above its encoding
  anchors-over : (e : K × V) (rest : List (K × V)) (pages : List (List ℕ × List (K × V))) → AreOver encoded (e ∷ rest) pages → AnchorsAbove (encoded e.0) pages
  anchors-over e rest [] over = All-nil (λ page. text_order page.0 (encoded e.0) ≡ Greater)
  anchors-over e rest (page ∷ pages) over =
      All-cons (λ page. text_order page.0 (encoded e.0) ≡ Greater) page pages
      (less_turned (encoded e.0) page.0 (All-head (λ entry. text_order (encoded entry.0) page.0 ≡ Less) e rest (All-head (λ page. KeysBelow encoded page.0 (e ∷ rest)) page pages over)))
      (anchors-over e rest pages (All-tail (λ page. KeysBelow encoded page.0 (e ∷ rest)) page pages over))

  over-rest : (lower : List (K × V)) (e : K × V) (rest : List (K × V)) (pages : List (List ℕ × List (K × V))) → AreOver encoded (lower ++ e ∷ rest) pages → AreOver encoded (e ∷ rest) pages
  over-rest lower e rest [] over = All-nil (λ page. KeysBelow encoded page.0 (e ∷ rest))
  over-rest lower e rest (page ∷ pages) over =
      All-cons (λ page. KeysBelow encoded page.0 (e ∷ rest)) page pages
      (All-right (λ entry. text_order (encoded entry.0) page.0 ≡ Less) lower (e ∷ rest) (All-head (λ page. KeysBelow encoded page.0 (lower ++ e ∷ rest)) page pages over))
      (over-rest lower e rest pages (All-tail (λ page. KeysBelow encoded page.0 (lower ++ e ∷ rest)) page pages over))

  module _ (head : List (K × V)) (pages : List (List ℕ × List (K × V))) (map : IsMap order is_key encoded head pages) where
    -- the first page, cut before an entry
    module _ (lower : List (K × V)) (e : K × V) (rest : List (K × V)) (is : head ≡ lower ++ e ∷ rest) where
      whole : map_entries head pages ≡ lower ++ e ∷ (rest ++ entries_in pages)
      whole = ap (λ l. map_entries l pages) is ∙ append_assoc lower (e ∷ rest) (entries_in pages)

      over : AreOver encoded (lower ++ e ∷ rest) pages
      over = subst (λ l. AreOver encoded l pages) is (parted-over encoded head pages map.parted)

      pub head-above : AnchorsAbove (encoded e.0) pages
      head-above = anchors-over e rest pages (over-rest lower e rest pages over)

      pub head-cut-entries : map_entries lower ((encoded e.0, e ∷ rest) ∷ pages) ≡ map_entries head pages
      head-cut-entries = sym whole

      pub head-cut : IsMap order is_key encoded lower ((encoded e.0, e ∷ rest) ∷ pages)
      head-cut =
          let ordered = subst (IsOrdered order) whole map.ordered in let keys = subst (AreKeys is_key encoded) whole map.keys in record {
            ordered = ordered;
            keys = keys;
            parted = (
              parts-below lower e (rest ++ entries_in pages) ordered keys,
              parts-from lower e (rest ++ entries_in pages) ordered keys,
              head-above,
              subst (λ l. AreParted encoded l pages) is map.parted,
            );
            anchors = All-cons (λ page. IsEncoding is_key encoded page.0) (encoded e.0, e ∷ rest) pages (e.0, (is-indexable lower e (rest ++ entries_in pages) ordered keys).0, refl) map.anchors;
          }

    -- another page, cut behind its first entry or later
    module _ (left : List (List ℕ × List (K × V))) (page : List ℕ × List (K × V)) (right : List (List ℕ × List (K × V))) (at : pages ≡ left ++ page ∷ right)
        (f : K × V) (lower : List (K × V)) (e : K × V) (rest : List (K × V)) (is : page.1 ≡ (f ∷ lower) ++ e ∷ rest) where
      all : map_entries head pages ≡ ((head ++ entries_in left) ++ (f ∷ lower)) ++ e ∷ (rest ++ entries_in right)
      all =
          ap (map_entries head) at ∙ ap (λ l. head ++ l) (entries-around left page right) ∙ sym (append_assoc head (entries_in left) (page.1 ++ entries_in right))
          ∙ ap (λ l. (head ++ entries_in left) ++ (l ++ entries_in right)) is
          ∙ ap (λ l. (head ++ entries_in left) ++ l) (append_assoc (f ∷ lower) (e ∷ rest) (entries_in right))
          ∙ sym (append_assoc (head ++ entries_in left) (f ∷ lower) (e ∷ (rest ++ entries_in right)))

      ordered : IsOrdered order (((head ++ entries_in left) ++ (f ∷ lower)) ++ e ∷ (rest ++ entries_in right))
      ordered = subst (IsOrdered order) all map.ordered

      keys : AreKeys is_key encoded (((head ++ entries_in left) ++ (f ∷ lower)) ++ e ∷ (rest ++ entries_in right))
      keys = subst (AreKeys is_key encoded) all map.keys

      parted : AreParted encoded head (left ++ page ∷ right)
      parted = subst (AreParted encoded head) at map.parted

      -- the first entry is not below the page's anchor, and below the other
      climbs : text_order (encoded e.0) page.0 ≡ Greater
      climbs =
          let from = All-left (λ entry. text_order (encoded entry.0) page.0 ≢ Less) page.1 (entries_in right) (parted-at encoded head left page right parted).1 in
          let first = All-head (λ entry. text_order (encoded entry.0) page.0 ≢ Less) f (lower ++ e ∷ rest) (subst (KeysFrom encoded page.0) is from) in
          let below = parts-below ((head ++ entries_in left) ++ (f ∷ lower)) e (rest ++ entries_in right) ordered keys in
          let less = All-head (λ entry. text_order (encoded entry.0) (encoded e.0) ≡ Less) f lower
          (All-right (λ entry. text_order (encoded entry.0) (encoded e.0) ≡ Less) (head ++ entries_in left) (f ∷ lower) below) in
          rises (encoded e.0) (encoded f.0) page.0 (text_order (encoded f.0) page.0) refl first (less_turned (encoded f.0) (encoded e.0) less)

      pub page-above : AnchorsAbove (encoded e.0) right
      page-above =
          anchors-over e rest right (over-rest (f ∷ lower) e rest right (subst (λ l. AreOver encoded l right) is (over-page encoded head left page right parted)))

      pub page-cut-entries : map_entries head (left ++ (page.0, f ∷ lower) ∷ (encoded e.0, e ∷ rest) ∷ right) ≡ map_entries head pages
      page-cut-entries =
          ap (λ l. head ++ l) (entries-around left (page.0, f ∷ lower) ((encoded e.0, e ∷ rest) ∷ right))
          ∙ sym (append_assoc head (entries_in left) ((f ∷ lower) ++ ((e ∷ rest) ++ entries_in right)))
          ∙ sym (append_assoc (head ++ entries_in left) (f ∷ lower) (e ∷ (rest ++ entries_in right)))
          ∙ sym all

      pub page-cut : IsMap order is_key encoded head (left ++ (page.0, f ∷ lower) ∷ (encoded e.0, e ∷ rest) ∷ right)
      page-cut =
          let before = (head ++ entries_in left) ++ (f ∷ lower) in
          let anchors = subst (All (λ page. IsEncoding is_key encoded page.0)) at map.anchors in record {
            ordered = subst (IsOrdered order) (sym page-cut-entries) map.ordered;
            keys = subst (AreKeys is_key encoded) (sym page-cut-entries) map.keys;
            parted = parted-cut encoded head left page right (f ∷ lower) (e ∷ rest) (encoded e.0) parted is
                (parts-below before e (rest ++ entries_in right) ordered keys) (parts-from before e (rest ++ entries_in right) ordered keys) climbs page-above;
            anchors = all-cut (λ page. IsEncoding is_key encoded page.0) left page (page.0, f ∷ lower) (encoded e.0, e ∷ rest) right anchors
                (all-middle (λ page. IsEncoding is_key encoded page.0) left page right anchors) (e.0, (is-indexable before e (rest ++ entries_in right) ordered keys).0, refl);
          }

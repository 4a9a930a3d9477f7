-- Entries taken out of a map: the pages are still those of a map.
use Rattle.std.proofs.Common.{◌≡◌, ◌≢◌, ◌∙◌, ℕ, Bool, true, false, cond, List, [], ◌∷◌, ◌++◌, All, append_assoc, refl, sym, ap, subst, Option, Some, None}
use Rattle.std.specs.Prelude.{IfSome, IfNone}
use Rattle.std.proofs.lemmas.List.{append-nil}
use Rattle.std.proofs.lemmas.List.Elements.{All-nil, All-cons, All-head, All-tail, All-weaker}
use Rattle.std.specs.declared.cmp.Ordering.{Ordering}
use Rattle.std.specs.declared.cmp.Ordering.TheVariants.{Less}
use Rattle.art_bytes.specs.Text.{text_order}
use Rattle.art_pages.specs.Entries.{IsOrdered, IsIndexable, AreKeys}
use Rattle.art_pages.proofs.OrderLemmas.{ordered-cons, ordered-right, above-first}
use Rattle.art_map.specs.Pages.{entries_in, map_entries, KeysBelow, KeysFrom, AreParted, IsEncoding, IsMap}
use Rattle.art_map.proofs.PartLemmas.{parted-at, All-left}
use Rattle.art_map.proofs.ChangeLemmas.{AreOver, entries-around, parted-changed, parted-before, parted-over, over-page, all-put, all-middle}

module _ {K V : Type 0} where
  -- of these entries some are left, in order, and may have other values
  abbrev pub IsFewer : List (K × V) → List (K × V) → Type 0
  IsFewer [] kept = kept ≡ []
  IsFewer (e ∷ entries) kept =
      (keeps : Bool) × (value : V) × (rest : List (K × V)) × IsFewer entries rest × (kept ≡ cond keeps ((e.0, value) ∷ rest) rest)

  pub fewer-refl : (entries : List (K × V)) → IsFewer entries entries
  fewer-refl [] = refl
  fewer-refl (e ∷ entries) = (true, e.1, entries, fewer-refl entries, refl)

  pub fewer-none : (entries : List (K × V)) → IsFewer entries []
  fewer-none [] = refl
  fewer-none (e ∷ entries) = (false, e.1, [], fewer-none entries, refl)

  pub fewer-append : (a kept : List (K × V)) → IsFewer a kept → (b rest : List (K × V)) → IsFewer b rest → IsFewer (a ++ b) (kept ++ rest)
  fewer-append [] kept none b rest later = subst (λ l. IsFewer b (l ++ rest)) (sym none) later
  fewer-append (e ∷ a) kept (true, value, left, fewer, is) b rest later =
      (true, value, left ++ rest, fewer-append a left fewer b rest later, ap (λ l. l ++ rest) is)
  fewer-append (e ∷ a) kept (false, value, left, fewer, is) b rest later =
      (false, value, left ++ rest, fewer-append a left fewer b rest later, ap (λ l. l ++ rest) is)

  -- the first ones
  pub fewer-first : (a b : List (K × V)) → IsFewer (a ++ b) a
  fewer-first a b = subst (λ l. IsFewer (a ++ b) l) (append-nil a) (fewer-append a a (fewer-refl a) b [] (fewer-none b))

  -- what holds of all keys holds of those that are left
  pub all-fewer : (P : K → Type 0) (entries kept : List (K × V)) → IsFewer entries kept → All (λ e. P e.0) entries → All (λ e. P e.0) kept
  all-fewer P [] kept none all = subst (All (λ e. P e.0)) (sym none) all
  all-fewer P (e ∷ entries) kept (true, value, rest, fewer, is) all =
      subst (All (λ e. P e.0)) (sym is)
      (All-cons (λ e. P e.0) (e.0, value) rest (All-head (λ e. P e.0) e entries all) (all-fewer P entries rest fewer (All-tail (λ e. P e.0) e entries all)))
  all-fewer P (e ∷ entries) kept (false, value, rest, fewer, is) all =
      subst (All (λ e. P e.0)) (sym is) (all-fewer P entries rest fewer (All-tail (λ e. P e.0) e entries all))

  -- and they still ascend
  pub ordered-fewer : (cmp : K → K → Ordering) (entries kept : List (K × V)) → IsFewer entries kept → IsOrdered cmp entries → IsOrdered cmp kept
  ordered-fewer cmp [] kept none ordered = subst (IsOrdered cmp) (sym none) ordered
  ordered-fewer cmp (e ∷ entries) kept (true, value, rest, fewer, is) ordered =
      subst (IsOrdered cmp) (sym is)
      (ordered-cons cmp (e.0, value) rest (all-fewer (λ k. cmp e.0 k ≡ Less) entries rest fewer (above-first cmp e entries ordered))
      (ordered-fewer cmp entries rest fewer (ordered-right cmp (e ∷ []) entries ordered)))
  ordered-fewer cmp (e ∷ entries) kept (false, value, rest, fewer, is) ordered =
      subst (IsOrdered cmp) (sym is) (ordered-fewer cmp entries rest fewer (ordered-right cmp (e ∷ []) entries ordered))

module _ {K V : Type 0} (order : K → K → Ordering) (is_key : K → Type 0) (encoded : K → List ℕ) where
  over-fewer : (entries kept : List (K × V)) → IsFewer entries kept → (pages : List (List ℕ × List (K × V))) → AreOver encoded entries pages → AreOver encoded kept pages
  over-fewer entries kept fewer pages =
      All-weaker (λ page. KeysBelow encoded page.0 entries) (λ page. KeysBelow encoded page.0 kept)
      (λ page. all-fewer (λ k. text_order (encoded k) page.0 ≡ Less) entries kept fewer) pages

  module _ (head : List (K × V)) (pages : List (List ℕ × List (K × V))) (map : IsMap order is_key encoded head pages) where
    -- in the first page
    pub head-fewer : (kept : List (K × V)) → IsFewer head kept → IsMap order is_key encoded kept pages
    head-fewer kept fewer =
        let rest = entries_in pages in
        let whole = fewer-append head kept fewer rest rest (fewer-refl rest) in record {
          ordered = ordered-fewer order (map_entries head pages) (map_entries kept pages) whole map.ordered;
          keys = all-fewer (IsIndexable is_key encoded) (map_entries head pages) (map_entries kept pages) whole map.keys;
          parted = parted-before encoded head kept pages map.parted (over-fewer head kept fewer pages (parted-over encoded head pages map.parted));
          anchors = map.anchors;
        }

    -- in another page
    module _ (left : List (List ℕ × List (K × V))) (page : List ℕ × List (K × V)) (right : List (List ℕ × List (K × V))) (is : pages ≡ left ++ page ∷ right)
        (kept : List (K × V)) (fewer : IsFewer page.1 kept) (new : List (List ℕ × List (K × V))) (now : new ≡ left ++ (page.0, kept) ∷ right) where
      fewer-around : IsFewer (map_entries head (left ++ page ∷ right)) (map_entries head (left ++ (page.0, kept) ∷ right))
      fewer-around =
          let before = entries_in left in let after = entries_in right in
          let inner = fewer-append before before (fewer-refl before) (page.1 ++ after) (kept ++ after) (fewer-append page.1 kept fewer after after (fewer-refl after)) in
          let whole = fewer-append head head (fewer-refl head) (before ++ (page.1 ++ after)) (before ++ (kept ++ after)) inner in
          subst (λ l. IsFewer (head ++ l) (map_entries head (left ++ (page.0, kept) ∷ right))) (sym (entries-around left page right))
          (subst (λ l. IsFewer (head ++ (before ++ (page.1 ++ after))) (head ++ l)) (sym (entries-around left (page.0, kept) right)) whole)

      fewer-there : IsFewer (map_entries head pages) (map_entries head new)
      fewer-there =
          subst (λ l. IsFewer (map_entries head l) (map_entries head new)) (sym is)
          (subst (λ l. IsFewer (map_entries head (left ++ page ∷ right)) (map_entries head l)) (sym now) fewer-around)

      pub page-fewer : IsMap order is_key encoded head new
      page-fewer =
          let parted = subst (AreParted encoded head) is map.parted in
          let from : KeysFrom encoded page.0 page.1 = All-left (λ entry. text_order (encoded entry.0) page.0 ≢ Less) page.1 (entries_in right) (parted-at encoded head left page right parted).1 in
          let anchors = subst (All (λ page. IsEncoding is_key encoded page.0)) is map.anchors in record {
            ordered = ordered-fewer order (map_entries head pages) (map_entries head new) fewer-there map.ordered;
            keys = all-fewer (IsIndexable is_key encoded) (map_entries head pages) (map_entries head new) fewer-there map.keys;
            parted = subst (AreParted encoded head) (sym now) (parted-changed encoded head left page kept right parted
                (all-fewer (λ k. text_order (encoded k) page.0 ≢ Less) page.1 kept fewer from)
                (over-fewer page.1 kept fewer right (over-page encoded head left page right parted)));
            anchors = subst (All (λ page. IsEncoding is_key encoded page.0)) (sym now)
                (all-put (λ page. IsEncoding is_key encoded page.0) left page (page.0, kept) right anchors
                (all-middle (λ page. IsEncoding is_key encoded page.0) left page right anchors));
          }

module _ {K V : Type 0} (head : List (K × V)) (pages : List (List ℕ × List (K × V)))
    (left : List (List ℕ × List (K × V))) (page : List ℕ × List (K × V)) (right : List (List ℕ × List (K × V))) (is : pages ≡ left ++ page ∷ right)
    (kept taken : List (K × V)) (new : List (List ℕ × List (K × V))) (now : new ≡ left ++ (page.0, kept) ∷ right) where
  -- out of the last page with entries the last ones
  module _ (none-right : entries_in right ≡ []) where
    ends : (entries : List (K × V)) → map_entries head (left ++ (page.0, entries) ∷ right) ≡ (head ++ entries_in left) ++ entries
    ends entries =
        ap (λ l. head ++ l) (entries-around left (page.0, entries) right) ∙ ap (λ l. head ++ (entries_in left ++ (entries ++ l))) none-right
        ∙ ap (λ l. head ++ (entries_in left ++ l)) (append-nil entries) ∙ sym (append_assoc head (entries_in left) entries)

    pub taken-last : page.1 ≡ kept ++ taken → map_entries head pages ≡ map_entries head new ++ taken
    taken-last parts =
        ap (map_entries head) is ∙ ends page.1 ∙ ap (λ l. (head ++ entries_in left) ++ l) parts ∙ sym (append_assoc (head ++ entries_in left) kept taken)
        ∙ ap (λ l. l ++ taken) (sym (ends kept) ∙ ap (map_entries head) (sym now))

-- out of the first page the last entry, where the others have none
module _ {K V : Type 0} (head kept : List (K × V)) (r : Option (K × V)) (last : IfSome r (λ entry. head ≡ kept ++ entry ∷ [])) (same : IfNone r (kept ≡ head)) where
  left-fewer : (r : Option (K × V)) → IfSome r (λ entry. head ≡ kept ++ entry ∷ []) → IfNone r (kept ≡ head) → IsFewer head kept
  left-fewer None last same = subst (IsFewer head) (sym same) (fewer-refl head)
  left-fewer (Some entry) last same = subst (λ l. IsFewer l kept) (sym last) (fewer-first kept (entry ∷ []))

  pub head-left : (order : K → K → Ordering) (is_key : K → Type 0) (encoded : K → List ℕ) (pages : List (List ℕ × List (K × V))) → IsMap order is_key encoded head pages → IsMap order is_key encoded kept pages
  head-left order is_key encoded pages map = head-fewer order is_key encoded head pages map kept (left-fewer r last same)

module _ {K V : Type 0} (head kept : List (K × V)) (old new : List (List ℕ × List (K × V))) (empty : entries_in old ≡ []) (now : new ≡ old) where
  alone : (l : List (K × V)) → map_entries l old ≡ l
  alone l = ap (λ m. l ++ m) empty ∙ append-nil l

  alone-now : (l : List (K × V)) → map_entries l new ≡ l
  alone-now l = ap (map_entries l) now ∙ alone l

  pub last-of-head : (r : Option (K × V)) → IfSome r (λ entry. head ≡ kept ++ entry ∷ []) → IfSome r (λ entry. map_entries head old ≡ map_entries kept new ++ entry ∷ [])
  last-of-head None last = last
  last-of-head (Some entry) last = alone head ∙ last ∙ ap (λ l. l ++ entry ∷ []) (sym (alone-now kept))

  pub none-in-head : (r : Option (K × V)) → IfNone r (head ≡ []) → IfNone r (map_entries head old ≡ [])
  none-in-head None none = alone head ∙ none
  none-in-head (Some entry) none = none

  pub none-left : (r : Option (K × V)) → IfNone r (head ≡ []) → IfNone r (kept ≡ head) → IfNone r (map_entries kept new ≡ [])
  none-left None none same = alone-now kept ∙ same ∙ none
  none-left (Some entry) none same = none

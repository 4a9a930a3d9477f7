-- Where a text belongs among pages.
use Rattle.std.proofs.Common.{◌≡◌, ◌≢◌, ◌∙◌, ℕ, List, [], ◌∷◌, ◌++◌, All, append_assoc, refl, sym, ap, subst}
use Rattle.std.specs.declared.cmp.Ordering.{Ordering}
use Rattle.std.specs.declared.cmp.Ordering.TheVariants.{Less, Equal, Greater}
use Rattle.std.specs.Cmp.Lexicographic.{nat_list_cmp_total}
use Rattle.std.proofs.lemmas.List.{append-nil}
use Rattle.std.proofs.lemmas.List.Elements.{All-nil, All-cons, All-head, All-tail, All-weaker}
use Rattle.art_bytes.proofs.TextLaws.{same_order, less_turned, greater_turned}
use Rattle.art_bytes.specs.Text.{text_order}
use Rattle.art_keys.specs.Encoding.{Agrees}
use Rattle.art_pages.specs.Entries.{AllBelow, AllAbove, AreKeys, IsIndexable}
use Rattle.art_map.specs.Pages.{entries_in, map_entries, AnchorsAbove, KeysBelow, KeysFrom, AreParted, IsMap, IsPageOf}

-- below a text that is not above another is below that other
pub less-through : (x y z : List ℕ) (o : Ordering) → text_order y z ≡ o → text_order x y ≡ Less → o ≢ Greater → text_order x z ≡ Less
less-through x y z Less is less low = nat_list_cmp_total.trans x y z less is
less-through x y z Equal is less low = subst (λ w. text_order x w ≡ Less) (same_order y z is) less
less-through x y z Greater is less low = absurd (low refl)

-- not below a text that is above another is above that other
pub greater-through : (x y z : List ℕ) (o : Ordering) → text_order x y ≡ o → o ≢ Less → text_order y z ≡ Greater → text_order x z ≡ Greater
greater-through x y z Less is from greater = absurd (from refl)
greater-through x y z Equal is from greater = subst (λ w. text_order w z ≡ Greater) (sym (same_order x y is)) greater
greater-through x y z Greater is from greater =
    less_turned z x (nat_list_cmp_total.trans z y x (greater_turned y z greater) (greater_turned x y is))

module _ {K V : Type 0} where
  pub entries_in-append : (a b : List (List ℕ × List (K × V))) → entries_in (a ++ b) ≡ entries_in a ++ entries_in b
  entries_in-append [] b = refl
  entries_in-append (page ∷ a) b = ap (λ l. page.1 ++ l) (entries_in-append a b) ∙ sym (append_assoc page.1 (entries_in a) (entries_in b))

  -- what holds of both parts of a list
  pub All-left : (P : K × V → Type 0) (a b : List (K × V)) → All P (a ++ b) → All P a
  All-left P [] b all = All-nil P
  All-left P (e ∷ a) b all = All-cons P e a (All-head P e (a ++ b) all) (All-left P a b (All-tail P e (a ++ b) all))

  pub All-right : (P : K × V → Type 0) (a b : List (K × V)) → All P (a ++ b) → All P b
  All-right P [] b all = all
  All-right P (e ∷ a) b all = All-right P a b (All-tail P e (a ++ b) all)

module _ {K V : Type 0} (encoded : K → List ℕ) where
  -- what an anchor parts
  pub parted-at : (before : List (K × V)) (left : List (List ℕ × List (K × V))) (page : List ℕ × List (K × V)) (right : List (List ℕ × List (K × V)))
      → AreParted encoded before (left ++ page ∷ right) → KeysBelow encoded page.0 (before ++ entries_in left) × KeysFrom encoded page.0 (page.1 ++ entries_in right)
  parted-at before [] page right parted = (subst (KeysBelow encoded page.0) (sym (append-nil before)) parted.0, parted.1)
  parted-at before (other ∷ left) page right parted =
      let later = parted-at (before ++ other.1) left page right parted.3 in
      (subst (KeysBelow encoded page.0) (append_assoc before other.1 (entries_in left)) later.0, later.1)

  -- the pages behind one
  pub parted-behind : (before : List (K × V)) (left : List (List ℕ × List (K × V))) (page : List ℕ × List (K × V)) (right : List (List ℕ × List (K × V)))
      → AreParted encoded before (left ++ page ∷ right) → AreParted encoded ((before ++ entries_in left) ++ page.1) right
  parted-behind before [] page right parted = subst (λ b. AreParted encoded (b ++ page.1) right) (sym (append-nil before)) parted.3
  parted-behind before (other ∷ left) page right parted =
      subst (λ b. AreParted encoded (b ++ page.1) right) (append_assoc before other.1 (entries_in left)) (parted-behind (before ++ other.1) left page right parted.3)

  -- the entries of pages whose anchors are above a text are above it
  pub above-pages : (before : List (K × V)) (pages : List (List ℕ × List (K × V))) (x : List ℕ) → AreParted encoded before pages → AnchorsAbove x pages
      → All (λ entry. text_order (encoded entry.0) x ≡ Greater) (entries_in pages)
  above-pages before [] x parted above = All-nil (λ entry. text_order (encoded entry.0) x ≡ Greater)
  above-pages before (page ∷ pages) x parted above =
      let high = All-head (λ page. text_order page.0 x ≡ Greater) page pages above in
      All-weaker (λ entry. text_order (encoded entry.0) page.0 ≢ Less) (λ entry. text_order (encoded entry.0) x ≡ Greater)
      (λ entry from. greater-through (encoded entry.0) page.0 x (text_order (encoded entry.0) page.0) refl from high) (page.1 ++ entries_in pages) parted.1

-- where a text is below or above the encoding of a key, so is the query that has it
abbrev pub AgreesBy : {K : Type 0} → (K → Type 0) → (K → List ℕ) → (K → Ordering) → List ℕ → Type 0
AgreesBy {K} is_key encoded compare x = (key : K) → IsIndexable is_key encoded key → Agrees (text_order x (encoded key)) (compare key)

module _ {K : Type 0} (is_key : K → Type 0) (encoded : K → List ℕ) (compare : K → Ordering) (x : List ℕ) (law : AgreesBy is_key encoded compare x) where
  is-less : (key : K) → IsIndexable is_key encoded key → text_order (encoded key) x ≡ Greater → compare key ≡ Less
  is-less key is above = subst (λ o. Agrees o (compare key)) (greater_turned (encoded key) x above) (law key is)

  is-greater : (key : K) → IsIndexable is_key encoded key → text_order (encoded key) x ≡ Less → compare key ≡ Greater
  is-greater key is below = subst (λ o. Agrees o (compare key)) (less_turned (encoded key) x below) (law key is)

module _ {K V : Type 0} (is_key : K → Type 0) (encoded : K → List ℕ) (compare : K → Ordering) (x : List ℕ) (law : AgreesBy is_key encoded compare x) where
  pub above-query : (entries : List (K × V)) → AreKeys is_key encoded entries → All (λ entry. text_order (encoded entry.0) x ≡ Greater) entries → AllAbove compare entries
  above-query [] keys above = All-nil (λ entry. compare entry.0 ≡ Less)
  above-query (e ∷ entries) keys above =
      All-cons (λ entry. compare entry.0 ≡ Less) e entries
      (is-less is_key encoded compare x law e.0 (All-head (λ entry. IsIndexable is_key encoded entry.0) e entries keys) (All-head (λ entry. text_order (encoded entry.0) x ≡ Greater) e entries above))
      (above-query entries (All-tail (λ entry. IsIndexable is_key encoded entry.0) e entries keys) (All-tail (λ entry. text_order (encoded entry.0) x ≡ Greater) e entries above))

  pub below-query : (y : List ℕ) → text_order y x ≢ Greater → (entries : List (K × V)) → AreKeys is_key encoded entries → KeysBelow encoded y entries → AllBelow compare entries
  below-query y low [] keys below = All-nil (λ entry. compare entry.0 ≡ Greater)
  below-query y low (e ∷ entries) keys below =
      All-cons (λ entry. compare entry.0 ≡ Greater) e entries
      (is-greater is_key encoded compare x law e.0 (All-head (λ entry. IsIndexable is_key encoded entry.0) e entries keys)
      (less-through (encoded e.0) y x (text_order y x) refl (All-head (λ entry. text_order (encoded entry.0) y ≡ Less) e entries below) low))
      (below-query y low entries (All-tail (λ entry. IsIndexable is_key encoded entry.0) e entries keys) (All-tail (λ entry. text_order (encoded entry.0) y ≡ Less) e entries below))

  -- the page of a query among those of a map
  module _ (order : K → K → Ordering) (head : List (K × V)) (pages : List (List ℕ × List (K × V))) (map : IsMap order is_key encoded head pages) where
    -- the first page, where all anchors are above the text
    pub above-head : AnchorsAbove x pages → AllAbove compare (entries_in pages)
    above-head above =
        above-query (entries_in pages) (All-right (λ entry. IsIndexable is_key encoded entry.0) head (entries_in pages) map.keys)
        (above-pages encoded head pages x map.parted above)

    pub head-of-query : AnchorsAbove x pages → IsPageOf compare head (map_entries head pages)
    head-of-query above = record {
      before = [];
      after = entries_in pages;
      is = refl;
      below = All-nil (λ entry. compare entry.0 ≡ Greater);
      above = above-head above;
    }

    -- a page of the tree
    module _ (left : List (List ℕ × List (K × V))) (page : List ℕ × List (K × V)) (right : List (List ℕ × List (K × V))) (is : pages ≡ left ++ page ∷ right) where
      whole : map_entries head pages ≡ (head ++ entries_in left) ++ (page.1 ++ entries_in right)
      whole = ap (λ l. head ++ entries_in l) is ∙ ap (λ l. head ++ l) (entries_in-append left (page ∷ right)) ∙ sym (append_assoc head (entries_in left) (page.1 ++ entries_in right))

      pub keys : AreKeys is_key encoded ((head ++ entries_in left) ++ (page.1 ++ entries_in right))
      keys = subst (AreKeys is_key encoded) whole map.keys

      pub parted : AreParted encoded head (left ++ page ∷ right)
      parted = subst (AreParted encoded head) is map.parted

      -- under the last anchor that is not above it
      module _ (low : text_order page.0 x ≢ Greater) (above : AnchorsAbove x right) where
        pub below-page : AllBelow compare (head ++ entries_in left)
        below-page =
            below-query page.0 low (head ++ entries_in left)
            (All-left (λ entry. IsIndexable is_key encoded entry.0) (head ++ entries_in left) (page.1 ++ entries_in right) keys) (parted-at encoded head left page right parted).0

        pub above-page : AllAbove compare (entries_in right)
        above-page =
            let later = All-right (λ entry. IsIndexable is_key encoded entry.0) (head ++ entries_in left) (page.1 ++ entries_in right) keys in
            above-query (entries_in right) (All-right (λ entry. IsIndexable is_key encoded entry.0) page.1 (entries_in right) later)
            (above-pages encoded ((head ++ entries_in left) ++ page.1) right x (parted-behind encoded head left page right parted) above)

        pub page-of-query : IsPageOf compare page.1 (map_entries head pages)
        page-of-query = record { before = head ++ entries_in left; after = entries_in right; is = whole; below = below-page; above = above-page }

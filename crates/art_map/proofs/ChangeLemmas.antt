-- Pages that change: their anchors still part the entries.
use Rattle.std.proofs.Common.{◌≡◌, ◌≢◌, ◌∙◌, ℕ, List, [], ◌∷◌, ◌++◌, All, append_assoc, refl, sym, ap, subst}
use Rattle.std.specs.declared.cmp.Ordering.TheVariants.{Less, Greater}
use Rattle.std.proofs.lemmas.List.Elements.{All-nil, All-cons, All-head, All-tail, All-weaker, All-append}
use Rattle.art_bytes.specs.Text.{text_order}
use Rattle.art_map.specs.Pages.{entries_in, AnchorsAbove, KeysBelow, KeysFrom, AreParted}
use Rattle.art_map.proofs.PartLemmas.{greater-through, entries_in-append, All-left, All-right}

module _ {X : Type 0} (P : X → Type 0) where
  -- what holds of both parts of a list, and of what stands between them
  pub all-front : (a b : List X) → All P (a ++ b) → All P a
  all-front [] b all = All-nil P
  all-front (x ∷ a) b all = All-cons P x a (All-head P x (a ++ b) all) (all-front a b (All-tail P x (a ++ b) all))

  pub all-back : (a b : List X) → All P (a ++ b) → All P b
  all-back [] b all = all
  all-back (x ∷ a) b all = all-back a b (All-tail P x (a ++ b) all)

  pub all-middle : (a : List X) (x : X) (b : List X) → All P (a ++ x ∷ b) → P x
  all-middle a x b all = All-head P x b (all-back a (x ∷ b) all)

  pub all-around : (a : List X) (x : X) (b : List X) → All P (a ++ x ∷ b) → All P b
  all-around a x b all = All-tail P x b (all-back a (x ∷ b) all)

  pub all-put : (a : List X) (x y : X) (b : List X) → All P (a ++ x ∷ b) → P y → All P (a ++ y ∷ b)
  all-put a x y b all is = All-append P a (y ∷ b) (all-front a (x ∷ b) all) (All-cons P y b is (all-around a x b all))

  pub all-cut : (a : List X) (x y z : X) (b : List X) → All P (a ++ x ∷ b) → P y → P z → All P (a ++ y ∷ z ∷ b)
  all-cut a x y z b all is also = All-append P a (y ∷ z ∷ b) (all-front a (x ∷ b) all) (All-cons P y (z ∷ b) is (All-cons P z b also (all-around a x b all)))

  pub all-without : (a : List X) (x : X) (b : List X) → All P (a ++ x ∷ b) → All P (a ++ b)
  all-without a x b all = All-append P a b (all-front a (x ∷ b) all) (all-around a x b all)

module _ {K V : Type 0} where
  -- the entries of pages around one
  pub entries-around : (left : List (List ℕ × List (K × V))) (page : List ℕ × List (K × V)) (right : List (List ℕ × List (K × V)))
      → entries_in (left ++ page ∷ right) ≡ entries_in left ++ (page.1 ++ entries_in right)
  entries-around left page right = entries_in-append left (page ∷ right)

module _ {K V : Type 0} (encoded : K → List ℕ) where
  -- each of these anchors is above some entries
  abbrev pub AreOver : List (K × V) → List (List ℕ × List (K × V)) → Type 0
  AreOver entries pages = All (λ page. KeysBelow encoded page.0 entries) pages

  over-left : (b c : List (K × V)) (pages : List (List ℕ × List (K × V))) → AreOver (b ++ c) pages → AreOver b pages
  over-left b c pages = All-weaker (λ page. KeysBelow encoded page.0 (b ++ c)) (λ page. KeysBelow encoded page.0 b)
      (λ page. All-left (λ entry. text_order (encoded entry.0) page.0 ≡ Less) b c) pages

  over-right : (b c : List (K × V)) (pages : List (List ℕ × List (K × V))) → AreOver (b ++ c) pages → AreOver c pages
  over-right b c pages = All-weaker (λ page. KeysBelow encoded page.0 (b ++ c)) (λ page. KeysBelow encoded page.0 c)
      (λ page. All-right (λ entry. text_order (encoded entry.0) page.0 ≡ Less) b c) pages

  over-append : (b c : List (K × V)) (pages : List (List ℕ × List (K × V))) → AreOver b pages → AreOver c pages → AreOver (b ++ c) pages
  over-append b c [] under over = All-nil (λ page. KeysBelow encoded page.0 (b ++ c))
  over-append b c (page ∷ pages) under over =
      All-cons (λ page. KeysBelow encoded page.0 (b ++ c)) page pages
      (All-append (λ entry. text_order (encoded entry.0) page.0 ≡ Less) b c (All-head (λ page. KeysBelow encoded page.0 b) page pages under) (All-head (λ page. KeysBelow encoded page.0 c) page pages over))
      (over-append b c pages (All-tail (λ page. KeysBelow encoded page.0 b) page pages under) (All-tail (λ page. KeysBelow encoded page.0 c) page pages over))

  -- all anchors are above the entries before the pages
  pub parted-over : (before : List (K × V)) (pages : List (List ℕ × List (K × V))) → AreParted encoded before pages → AreOver before pages
  parted-over before [] parted = All-nil (λ page. KeysBelow encoded page.0 before)
  parted-over before (page ∷ pages) parted =
      All-cons (λ page. KeysBelow encoded page.0 before) page pages parted.0 (over-left before page.1 pages (parted-over (before ++ page.1) pages parted.3))

  -- other entries before the pages
  pub parted-before : (old new : List (K × V)) (pages : List (List ℕ × List (K × V))) → AreParted encoded old pages → AreOver new pages → AreParted encoded new pages
  parted-before old new [] parted over = tt
  parted-before old new (page ∷ pages) parted over = (
    All-head (λ page. KeysBelow encoded page.0 new) page pages over,
    parted.1,
    parted.2,
    parted-before (old ++ page.1) (new ++ page.1) pages parted.3
        (over-append new page.1 pages (All-tail (λ page. KeysBelow encoded page.0 new) page pages over) (over-right old page.1 pages (parted-over (old ++ page.1) pages parted.3))),
  )

  -- the anchors behind a page are above its entries
  pub over-page : (before : List (K × V)) (left : List (List ℕ × List (K × V))) (page : List ℕ × List (K × V)) (right : List (List ℕ × List (K × V)))
      → AreParted encoded before (left ++ page ∷ right) → AreOver page.1 right
  over-page before [] page right parted = over-right before page.1 right (parted-over (before ++ page.1) right parted.3)
  over-page before (other ∷ left) page right parted = over-page (before ++ other.1) left page right parted.3

  -- not below an anchor is not below one before it
  from-lower : (low high : List ℕ) (entries : List (K × V)) → text_order high low ≡ Greater → KeysFrom encoded high entries → KeysFrom encoded low entries
  from-lower low high entries above = All-weaker (λ entry. text_order (encoded entry.0) high ≢ Less) (λ entry. text_order (encoded entry.0) low ≢ Less)
      (λ entry from less. absurd (differ (encoded entry.0) (greater-through (encoded entry.0) high low (text_order (encoded entry.0) high) refl from above) less)) entries
    where
      differ : (x : List ℕ) → text_order x low ≡ Greater → text_order x low ≡ Less → ⊥
      differ x greater less = cc

  -- a page with other entries, from its anchor on and below those behind it
  pub parted-changed : (before : List (K × V)) (left : List (List ℕ × List (K × V))) (page : List ℕ × List (K × V)) (now : List (K × V)) (right : List (List ℕ × List (K × V)))
      → AreParted encoded before (left ++ page ∷ right) → KeysFrom encoded page.0 now → AreOver now right → AreParted encoded before (left ++ (page.0, now) ∷ right)
  parted-changed before [] page now right parted from over = (
    parted.0,
    All-append (λ entry. text_order (encoded entry.0) page.0 ≢ Less) now (entries_in right) from (All-right (λ entry. text_order (encoded entry.0) page.0 ≢ Less) page.1 (entries_in right) parted.1),
    parted.2,
    parted-before (before ++ page.1) (before ++ now) right parted.3 (over-append before now right (over-left before page.1 right (parted-over (before ++ page.1) right parted.3)) over),
  )
  parted-changed before (other ∷ left) page now right parted from over =
      let Above : List ℕ × List (K × V) → Type 0 = λ page. text_order page.0 other.0 ≡ Greater in
      let From : K × V → Type 0 = λ entry. text_order (encoded entry.0) other.0 ≢ Less in
      let old : KeysFrom encoded other.0 (entries_in left ++ (page.1 ++ entries_in right)) =
      subst (All From) (entries-around left page right) (All-right From other.1 (entries_in (left ++ page ∷ right)) parted.1) in (
        parted.0,
        All-append From other.1 (entries_in (left ++ (page.0, now) ∷ right)) (All-left From other.1 (entries_in (left ++ page ∷ right)) parted.1)
            (subst (All From) (sym (entries-around left (page.0, now) right))
            (All-append From (entries_in left) (now ++ entries_in right) (All-left From (entries_in left) (page.1 ++ entries_in right) old)
            (All-append From now (entries_in right) (from-lower other.0 page.0 now (all-middle Above left page right parted.2) from)
            (All-right From page.1 (entries_in right) (All-right From (entries_in left) (page.1 ++ entries_in right) old))))),
        all-put Above left page (page.0, now) right parted.2 (all-middle Above left page right parted.2),
        parted-changed (before ++ other.1) left page now right parted.3 from over,
      )

  -- a page that is cut in two, at a new anchor between both parts
  pub parted-cut : (before : List (K × V)) (left : List (List ℕ × List (K × V))) (page : List ℕ × List (K × V)) (right : List (List ℕ × List (K × V)))
      (lower upper : List (K × V)) (anchor : List ℕ)
      → AreParted encoded before (left ++ page ∷ right) → page.1 ≡ lower ++ upper
      → KeysBelow encoded anchor ((before ++ entries_in left) ++ lower) → KeysFrom encoded anchor (upper ++ entries_in right)
      → text_order anchor page.0 ≡ Greater → AnchorsAbove anchor right
      → AreParted encoded before (left ++ (page.0, lower) ∷ (anchor, upper) ∷ right)
  parted-cut before [] page right lower upper anchor parted is below from above over =
      let From : K × V → Type 0 = λ entry. text_order (encoded entry.0) page.0 ≢ Less in (
        parted.0,
        subst (All From) (append_assoc lower upper (entries_in right)) (subst (λ l. All From (l ++ entries_in right)) is parted.1),
        All-cons (λ page'. text_order page'.0 page.0 ≡ Greater) (anchor, upper) right above parted.2,
        (
          subst (λ l. KeysBelow encoded anchor (l ++ lower)) (append-nothing before) below,
          from,
          over,
          subst (λ l. AreParted encoded l right) (sym (append_assoc before lower upper)) (subst (λ l. AreParted encoded (before ++ l) right) is parted.3),
        ),
      )
    where
      append-nothing : (l : List (K × V)) → l ++ [] ≡ l
      append-nothing [] = refl
      append-nothing (x ∷ l) = ap (λ m. x ∷ m) (append-nothing l)
  parted-cut before (other ∷ left) page right lower upper anchor parted is below from above over =
      let Above : List ℕ × List (K × V) → Type 0 = λ page. text_order page.0 other.0 ≡ Greater in
      let beside : text_order page.0 other.0 ≡ Greater = all-middle Above left page right parted.2 in (
        parted.0,
        subst (λ l. KeysFrom encoded other.0 (other.1 ++ l)) (same-entries left page right lower upper anchor is) parted.1,
        all-cut Above left page (page.0, lower) (anchor, upper) right parted.2 beside (climbs anchor page.0 other.0 above beside),
        parted-cut (before ++ other.1) left page right lower upper anchor parted.3 is
            (subst (λ l. KeysBelow encoded anchor (l ++ lower)) (sym (append_assoc before other.1 (entries_in left))) below) from above over,
      )
    where
      same-entries : (left : List (List ℕ × List (K × V))) (page : List ℕ × List (K × V)) (right : List (List ℕ × List (K × V))) (lower upper : List (K × V)) (anchor : List ℕ) → page.1 ≡ lower ++ upper
          → entries_in (left ++ page ∷ right) ≡ entries_in (left ++ (page.0, lower) ∷ (anchor, upper) ∷ right)
      same-entries left page right lower upper anchor is =
          entries-around left page right ∙ ap (λ l. entries_in left ++ (l ++ entries_in right)) is ∙ ap (λ l. entries_in left ++ l) (append_assoc lower upper (entries_in right))
          ∙ sym (entries-around left (page.0, lower) ((anchor, upper) ∷ right))

      climbs : (x y z : List ℕ) → text_order x y ≡ Greater → text_order y z ≡ Greater → text_order x z ≡ Greater
      climbs x y z first later = greater-through x y z (text_order x y) refl (λ less. absurd (cc)) later

  -- an empty page that goes
  pub parted-without : (before : List (K × V)) (left : List (List ℕ × List (K × V))) (page : List ℕ × List (K × V)) (right : List (List ℕ × List (K × V)))
      → AreParted encoded before (left ++ page ∷ right) → page.1 ≡ [] → AreParted encoded before (left ++ right)
  parted-without before [] page right parted is =
      parted-before (before ++ page.1) before right parted.3 (over-left before page.1 right (parted-over (before ++ page.1) right parted.3))
  parted-without before (other ∷ left) page right parted is =
      let Above : List ℕ × List (K × V) → Type 0 = λ page. text_order page.0 other.0 ≡ Greater in (
        parted.0,
        subst (λ l. KeysFrom encoded other.0 (other.1 ++ l)) (entries-around left page right ∙ ap (λ l. entries_in left ++ (l ++ entries_in right)) is ∙ sym (entries_in-append left right)) parted.1,
        all-without Above left page right parted.2,
        parted-without (before ++ other.1) left page right parted.3 is,
      )

  -- a page to which the entries of the next one are joined
  pub parted-joined : (before : List (K × V)) (left : List (List ℕ × List (K × V))) (page next : List ℕ × List (K × V)) (right : List (List ℕ × List (K × V)))
      → AreParted encoded before (left ++ page ∷ next ∷ right) → AreParted encoded before (left ++ (page.0, page.1 ++ next.1) ∷ right)
  parted-joined before [] page next right parted =
      let From : K × V → Type 0 = λ entry. text_order (encoded entry.0) page.0 ≢ Less in (
        parted.0,
        subst (All From) (sym (append_assoc page.1 next.1 (entries_in right))) parted.1,
        All-tail (λ page'. text_order page'.0 page.0 ≡ Greater) next right parted.2,
        subst (λ l. AreParted encoded l right) (append_assoc before page.1 next.1) parted.3.3,
      )
  parted-joined before (other ∷ left) page next right parted =
      let Above : List ℕ × List (K × V) → Type 0 = λ page. text_order page.0 other.0 ≡ Greater in (
        parted.0,
        subst (λ l. KeysFrom encoded other.0 (other.1 ++ l)) (entries-around left page (next ∷ right)
            ∙ ap (λ l. entries_in left ++ l) (sym (append_assoc page.1 next.1 (entries_in right))) ∙ sym (entries-around left (page.0, page.1 ++ next.1) right)) parted.1,
        all-put Above left page (page.0, page.1 ++ next.1) right
            (all-without-next Above left page next right parted.2) (all-middle Above left page (next ∷ right) parted.2),
        parted-joined (before ++ other.1) left page next right parted.3,
      )
    where
      all-without-next : {X : Type 0} (P : X → Type 0) (a : List X) (x y : X) (b : List X) → All P (a ++ x ∷ y ∷ b) → All P (a ++ x ∷ b)
      all-without-next P a x y b all =
          All-append P a (x ∷ b) (all-front P a (x ∷ y ∷ b) all)
          (All-cons P x b (all-middle P a x (y ∷ b) all) (All-tail P y b (all-around P a x (y ∷ b) all)))

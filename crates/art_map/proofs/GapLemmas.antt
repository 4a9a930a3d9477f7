-- Gaps of queries.
use Rattle.std.proofs.Common.{◌≡◌, ◌≢◌, ◌∙◌, ℕ, zero, suc, ◌+◌, ◌<◌, Bool, true, false, List, [], ◌∷◌, ◌++◌, All, HoldsAt, length, take, drop, Ok, Err, sym, ap, subst, arith, append_assoc}
use Rattle.std.proofs.lemmas.List.Elements.{All-nil, All-cons, All-head, All-tail, All-weaker}
use Rattle.std.specs.Ordering.{is_lt, is_le}
use Rattle.std.specs.declared.cmp.Ordering.{Ordering}
use Rattle.std.specs.declared.cmp.Ordering.TheVariants.{Less, Greater}
use Rattle.art_bytes.specs.Text.{text_order}
use Rattle.art_pages.specs.Entries.{AllBelow, AllAbove, AreKeys, IsIndexable, IsPlaceOf}
use Rattle.art_map.specs.Pages.{entries_in, map_entries, AnchorsAbove, AreParted, IsMap}
use Rattle.art_map.specs.Gaps.{is_behind, AllBefore, AllBehind, IsGapAt}
use Rattle.art_map.proofs.PartLemmas.{AgreesBy, All-left, All-right, above-pages, above-query, below-query, entries_in-append, parted-at, parted-behind}

module _ {X : Type 0} (P : X → Type 0) where
  -- what holds of the item at an index too
  take-more : (l : List X) (place : ℕ) → place < length l → All P (take place l) → HoldsAt P l place → All P (take (suc place) l)
  take-more [] place inside before at = All-nil P
  take-more (x ∷ l) zero inside before at = All-cons P x [] (at x) (All-nil P)
  take-more (x ∷ l) (suc place) inside before at =
      All-cons P x (take (suc place) l) (All-head P x (take place l) before) (take-more l place (omega (arith, inside)) (All-tail P x (take place l) before) at)

  drop-more : (l : List X) (place : ℕ) → place < length l → All P (drop (suc place) l) → HoldsAt P l place → All P (drop place l)
  drop-more [] place inside behind at = absurd (omega (arith, inside))
  drop-more (x ∷ l) zero inside behind at = All-cons P x l (at x) behind
  drop-more (x ∷ l) (suc place) inside behind at = drop-more l place (omega (arith, inside)) behind at

module _ {K V : Type 0} (compare : K → Ordering) where
  -- below a query is before its gap, and above it behind
  pub below-before : (after : Bool) (entries : List (K × V)) → AllBelow compare entries → AllBefore compare after entries
  below-before after entries = All-weaker (λ entry. compare entry.0 ≡ Greater) (λ entry. is_behind compare after entry.0 ≡ false) (λ entry. by_side after entry.0) entries
    where
      by_side : (after : Bool) (key : K) → compare key ≡ Greater → is_behind compare after key ≡ false
      by_side true key is = ap is_lt is
      by_side false key is = ap is_le is

  pub above-behind : (after : Bool) (entries : List (K × V)) → AllAbove compare entries → AllBehind compare after entries
  above-behind after entries = All-weaker (λ entry. compare entry.0 ≡ Less) (λ entry. is_behind compare after entry.0 ≡ true) (λ entry. by_side after entry.0) entries
    where
      by_side : (after : Bool) (key : K) → compare key ≡ Less → is_behind compare after key ≡ true
      by_side true key is = ap is_lt is
      by_side false key is = ap is_le is

  -- the gap of a query in a page
  next-place : (entries : List (K × V)) (place : ℕ) → AllAbove compare (drop (place + 1) entries) → AllAbove compare (drop (suc place) entries)
  next-place entries place = subst (λ n. AllAbove compare (drop n entries)) (let same : place + 1 ≡ suc place = omega arith in same)

  pub gap_behind : (entries : List (K × V)) (place : ℕ) → IsPlaceOf compare entries (Ok place) → IsGapAt compare true entries (place + 1)
  gap_behind entries place at =
      let same : suc place ≡ place + 1 = omega arith in
      subst (IsGapAt compare true entries) same (
        let inside = at.0 in omega (arith, inside),
        take-more (λ entry. is_behind compare true entry.0 ≡ false) entries place at.0 (below-before true (take place entries) at.2) (λ d. ap is_lt (at.1 d)),
        above-behind true (drop (suc place) entries) (next-place entries place at.3),
      )

  pub gap_at : (entries : List (K × V)) (place : ℕ) → IsPlaceOf compare entries (Ok place) → IsGapAt compare false entries place
  gap_at entries place at = (
    let inside = at.0 in omega (arith, inside),
    below-before false (take place entries) at.2,
    drop-more (λ entry. is_behind compare false entry.0 ≡ true) entries place at.0 (above-behind false (drop (suc place) entries) (next-place entries place at.3)) (λ d. ap is_le (at.1 d)),
  )

  pub gap_between : (after : Bool) (entries : List (K × V)) (place : ℕ) → IsPlaceOf compare entries (Err place) → IsGapAt compare after entries place
  gap_between after entries place at = (at.0, below-before after (take place entries) at.1, above-behind after (drop place entries) at.2)

-- the entries before and behind the page of a query among those of a map
module _ {K V : Type 0} (is_key : K → Type 0) (encoded : K → List ℕ) (compare : K → Ordering) (x : List ℕ) (law : AgreesBy is_key encoded compare x)
    (order : K → K → Ordering) (head : List (K × V)) (pages : List (List ℕ × List (K × V))) (map : IsMap order is_key encoded head pages) where
  abbrev Has : K × V → Type 0
  Has entry = IsIndexable is_key encoded entry.0

  pub above-first : AnchorsAbove x pages → AllAbove compare (entries_in pages)
  above-first above = above-query is_key encoded compare x law (entries_in pages) (All-right Has head (entries_in pages) map.keys) (above-pages encoded head pages x map.parted above)

  pub beside-page : (left : List (List ℕ × List (K × V))) (page : List ℕ × List (K × V)) (right : List (List ℕ × List (K × V))) → pages ≡ left ++ page ∷ right
      → text_order page.0 x ≢ Greater → AnchorsAbove x right → AllBelow compare (head ++ entries_in left) × AllAbove compare (entries_in right)
  beside-page left page right is low above =
      let before = head ++ entries_in left in
      let whole : map_entries head pages ≡ before ++ (page.1 ++ entries_in right) =
      ap (λ l. head ++ entries_in l) is ∙ ap (λ l. head ++ l) (entries_in-append left (page ∷ right)) ∙ sym (append_assoc head (entries_in left) (page.1 ++ entries_in right)) in
      let parted = subst (AreParted encoded head) is map.parted in
      let keys = subst (AreKeys is_key encoded) whole map.keys in
      let later = All-right Has before (page.1 ++ entries_in right) keys in (
        below-query is_key encoded compare x law page.0 low before (All-left Has before (page.1 ++ entries_in right) keys) (parted-at encoded head left page right parted).0,
        above-query is_key encoded compare x law (entries_in right) (All-right Has page.1 (entries_in right) later)
            (above-pages encoded (before ++ page.1) right x (parted-behind encoded head left page right parted) above),
      )

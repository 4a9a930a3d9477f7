-- A page in which a query has an entry, or lies beside some, is the page where it belongs.
use Rattle.std.proofs.Common.{◌≡◌, ◌≢◌, ◌∙◌, ◌<◌, ℕ, zero, suc, List, [], ◌∷◌, ◌++◌, All, Result, Ok, Err, length, take, drop, get_or, arith, refl, sym, subst}
use Rattle.std.proofs.lemmas.List.Elements.{All-nil, All-cons, All-head, All-tail, All-weaker, All-get_or}
use Rattle.std.specs.declared.cmp.Ordering.{Ordering}
use Rattle.std.specs.declared.cmp.Ordering.TheVariants.{Less, Equal, Greater}
use Rattle.art_bytes.specs.Text.{text_order}
use Rattle.art_pages.specs.Entries.{AllAbove, AllBelow, AreKeys, IsIndexable, IsPlaceOf}
use Rattle.art_map.specs.Pages.{entries_in, AnchorsAbove, AreParted, IsMap, KeysBelow}
use Rattle.art_map.specs.Spots.{IsBeforeSome, IsBehindSome}
use Rattle.art_map.proofs.PartLemmas.{AgreesBy, All-left, All-right, above-query, below-query, greater-through, keys, parted-at, parted-behind}

differ : {K : Type 0} (compare : K → Ordering) (a b : Ordering) → (a ≡ b → ⊥) → (k : K) → compare k ≡ a → compare k ≡ b → ⊥
differ compare a b never k is also = never (sym is ∙ also)

module _ {K V : Type 0} (compare : K → Ordering) where
  -- entries that are all above a query, or all below it, have no place inside
  never-above : (entries : List (K × V)) (place : Result ℕ ℕ) → IsPlaceOf compare entries place → IsBehindSome place → AllAbove compare entries → ⊥
  never-above [] (Ok i) at inside above = omega (arith, at.0)
  never-above (e ∷ es) (Ok i) at inside above =
      let one = get_or (e ∷ es) i e in
      differ compare Equal Less (λ is. absurd (cc)) one.0 (at.1 e) (All-get_or (λ entry. compare entry.0 ≡ Less) (e ∷ es) i e at.0 above)
  never-above [] (Err i) at inside above = omega (arith, inside, at.0)
  never-above (e ∷ es) (Err zero) at inside above = omega (arith, inside)
  never-above (e ∷ es) (Err (suc i)) at inside above =
      differ compare Greater Less (λ is. absurd (cc)) e.0 (All-head (λ entry. compare entry.0 ≡ Greater) e (take i es) at.1) (All-head (λ entry. compare entry.0 ≡ Less) e es above)

  later-above : (entries : List (K × V)) (i : ℕ) → i < length entries → AllAbove compare (drop i entries) → AllBelow compare entries → ⊥
  later-above [] i within above below = omega (arith, within)
  later-above (e ∷ es) zero within above below =
      differ compare Greater Less (λ is. absurd (cc)) e.0 (All-head (λ entry. compare entry.0 ≡ Greater) e es below) (All-head (λ entry. compare entry.0 ≡ Less) e es above)
  later-above (e ∷ es) (suc i) within above below = later-above es i (omega (arith, within)) above (All-tail (λ entry. compare entry.0 ≡ Greater) e es below)

  never-below : (entries : List (K × V)) (place : Result ℕ ℕ) → IsPlaceOf compare entries place → IsBeforeSome place (length entries) → AllBelow compare entries → ⊥
  never-below [] (Ok i) at inside below = omega (arith, at.0)
  never-below (e ∷ es) (Ok i) at inside below =
      let one = get_or (e ∷ es) i e in
      differ compare Equal Greater (λ is. absurd (cc)) one.0 (at.1 e) (All-get_or (λ entry. compare entry.0 ≡ Greater) (e ∷ es) i e at.0 below)
  never-below entries (Err i) at inside below = later-above entries i inside at.2 below

module _ {K V : Type 0} (encoded : K → List ℕ) (x : List ℕ) where
  -- the anchors behind entries that are not all below a text are above it
  anchors-behind : (before : List (K × V)) (right : List (List ℕ × List (K × V))) → AreParted encoded before right
      → ((y : List ℕ) → text_order y x ≢ Greater → KeysBelow encoded y before → ⊥) → AnchorsAbove x right
  anchors-behind before [] parts never = All-nil (λ page. text_order page.0 x ≡ Greater)
  anchors-behind before (page ∷ right) parts never =
      let high = by_order (text_order page.0 x) refl in
      All-cons (λ page. text_order page.0 x ≡ Greater) page right high
      (All-weaker (λ other. text_order other.0 page.0 ≡ Greater) (λ other. text_order other.0 x ≡ Greater)
      (λ other is. greater-through other.0 page.0 x Greater is (λ less. absurd (cc)) high) right parts.2)
    where
      by_order : (o : Ordering) → text_order page.0 x ≡ o → text_order page.0 x ≡ Greater
      by_order Greater is = is
      by_order Less is = absurd (never page.0 (λ greater. absurd (cc)) parts.0)
      by_order Equal is = absurd (never page.0 (λ greater. absurd (cc)) parts.0)

module _ {K V : Type 0} (is_key : K → Type 0) (encoded : K → List ℕ) (compare : K → Ordering) (x : List ℕ) (law : AgreesBy is_key encoded compare x)
    (order : K → K → Ordering) (head : List (K × V)) (pages : List (List ℕ × List (K × V))) (map : IsMap order is_key encoded head pages)
    (left : List (List ℕ × List (K × V))) (page : List ℕ × List (K × V)) (right : List (List ℕ × List (K × V))) (is : pages ≡ left ++ page ∷ right)
    (place : Result ℕ ℕ) (at : IsPlaceOf compare page.1 place) where
  parts : AreParted encoded head (left ++ page ∷ right)
  parts = subst (AreParted encoded head) is map.parted

  own-keys : AreKeys is_key encoded page.1
  own-keys =
      let own : K × V → Type 0 = λ entry. IsIndexable is_key encoded entry.0 in
      All-left own page.1 (entries_in right) (All-right own (head ++ entries_in left) (page.1 ++ entries_in right) (keys is_key encoded compare x law order head pages map left page right is))

  -- the anchor is not above a query that is at an entry, or behind one
  pub inside-low : IsBehindSome place → text_order page.0 x ≢ Greater
  inside-low inside greater =
      let from : All (λ entry. text_order (encoded entry.0) page.0 ≢ Less) page.1 =
      All-left (λ entry. text_order (encoded entry.0) page.0 ≢ Less) page.1 (entries_in right) (parted-at encoded head left page right parts).1 in
      never-above compare page.1 place at inside
      (above-query is_key encoded compare x law page.1 own-keys
      (All-weaker (λ entry. text_order (encoded entry.0) page.0 ≢ Less) (λ entry. text_order (encoded entry.0) x ≡ Greater)
      (λ entry not-less. greater-through (encoded entry.0) page.0 x (text_order (encoded entry.0) page.0) refl not-less greater) page.1 from))

  -- the anchors behind the page are above a query that is at an entry, or before one
  pub inside-above : IsBeforeSome place (length page.1) → AnchorsAbove x right
  inside-above inside =
      anchors-behind encoded x ((head ++ entries_in left) ++ page.1) right (parted-behind encoded head left page right parts)
      (λ y low below.
      never-below compare page.1 place at inside
      (below-query is_key encoded compare x law y low page.1 own-keys (All-right (λ entry. text_order (encoded entry.0) y ≡ Less) (head ++ entries_in left) page.1 below)))

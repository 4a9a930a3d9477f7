-- The two sides of a gap in a list, and a gap that moves over one item.
use Rattle.std.proofs.Common.{◌≡◌, ◌∙◌, ℕ, ◌-◌, Bool, true, false, not, ◌&&◌, cond, List, [], ◌∷◌, ◌++◌, All, Option, Some, None, length, length-append, take, drop, filter, append_assoc, refl, sym, ap, subst, arith}
use Rattle.std.proofs.lemmas.List.{append-nil, drop_at, take_at, take-append-drop}
use Rattle.std.proofs.lemmas.List.Elements.{All-nil, All-cons, All-head, All-tail, All-append, All-weaker, filter-append}
use Rattle.std.proofs.lemmas.Cmp.{tied_itself}
use Rattle.std.specs.Cmp.{IsTotalOrder}
use Rattle.std.specs.BTreeMap.Range.{entries_between, range_contains}
use Rattle.std.specs.Option.{IfSome, MatchOption}
use Rattle.std.specs.Ordering.{is_le, is_lt}
use Rattle.std.specs.declared.cmp.Ordering.{Ordering}
use Rattle.std.specs.declared.cmp.Ordering.TheVariants.{Less, Greater}
use Rattle.std.specs.declared.ops.Bound.TheVariants.{Excluded, Unbounded}
use Rattle.art_pages.specs.Entries.{IsOrdered}
use Rattle.art_pages.proofs.OrderLemmas.{ordered-left, ordered-right}
use Rattle.art_map.specs.Cursors.{AreSides, gap_sides}
use Rattle.art_map.specs.Seats.{IsGapOf}
use Rattle.art_map.proofs.EndLemmas.{above-others, below-others}
use Rattle.art_map.proofs.WithinLemmas.{Fails, Passes}

-- the sides of a gap are those that one of them leaves
module _ {X : Type 0} (list a b : List X) (whole : a ++ b ≡ list) where
  pub sides-of-after : gap_sides list true b ≡ (a, b)
  sides-of-after =
      let long = ap length whole in
      let sum = length-append a b in
      let same : length list - length b ≡ length a = omega (arith, long, sum) in
      ap (λ l. (l, b)) (ap (take (length list - length b)) (sym whole) ∙ take_at a b (length list - length b) (sym same))

  pub sides-of-before : gap_sides list false a ≡ (a, b)
  sides-of-before = ap (λ l. (a, l)) (ap (drop (length a)) (sym whole) ∙ drop_at a b (length a) refl)

module _ {X : Type 0} (test : X → Bool) where
  pub keep-none : (list : List X) → All (Fails test) list → filter test list ≡ []
  keep-none [] fail = refl
  keep-none (x ∷ list) fail =
      ap (λ keep. cond keep (x ∷ filter test list) (filter test list)) (All-head (Fails test) x list fail) ∙ keep-none list (All-tail (Fails test) x list fail)

  pub keep-all : (list : List X) → All (Passes test) list → filter test list ≡ list
  keep-all [] pass = refl
  keep-all (x ∷ list) pass =
      ap (λ keep. cond keep (x ∷ filter test list) (filter test list)) (All-head (Passes test) x list pass)
      ∙ ap (λ l. x ∷ l) (keep-all list (All-tail (Passes test) x list pass))

  pub keep-after : (a b : List X) → All (Fails test) a → All (Passes test) b → filter test (a ++ b) ≡ b
  keep-after a b fail pass = filter-append test a b ∙ (λ i. keep-none a fail i ++ keep-all b pass i)

  pub keep-before : (a b : List X) → All (Passes test) a → All (Fails test) b → filter test (a ++ b) ≡ a
  keep-before a b pass fail = filter-append test a b ∙ (λ i. keep-all a pass i ++ keep-none b fail i) ∙ append-nil a

-- the gap of a test parts the items that fail it from those that pass it
module _ {X : Type 0} (test : X → Bool) (list : List X) (place : ℕ) (gap : IsGapOf test list place) where
  pub gap-after : filter test list ≡ drop place list
  gap-after = ap (filter test) (sym (take-append-drop place list)) ∙ keep-after test (take place list) (drop place list) gap.0 gap.1

  pub gap-before : filter (λ x. not (test x)) list ≡ take place list
  gap-before =
      ap (filter (λ x. not (test x))) (sym (take-append-drop place list))
      ∙ keep-before (λ x. not (test x)) (take place list) (drop place list)
      (All-weaker (Fails test) (Passes (λ x. not (test x))) (λ x fail. ap not fail) (take place list) gap.0)
      (All-weaker (Passes test) (Fails (λ x. not (test x))) (λ x pass. ap not pass) (drop place list) gap.1)

-- an entry beside a gap of entries that ascend: what is beyond it is the other side
module _ {K V : Type 0} (cmp : K → K → Ordering) (total : IsTotalOrder cmp) (entries : List (K × V)) (ordered : IsOrdered cmp entries) (one : K × V) where
  abbrev Is : Ordering → K × V → Type 0
  Is order entry = cmp one.0 entry.0 ≡ order

  abbrev above : K × V → Bool
  above entry = range_contains cmp (Excluded one.0) Unbounded entry.0

  abbrev below : K × V → Bool
  below entry = range_contains cmp Unbounded (Excluded one.0) entry.0

  pub above-last : (rest b : List (K × V)) → (rest ++ one ∷ []) ++ b ≡ entries → entries_between cmp (Excluded one.0) Unbounded entries ≡ b
  above-last rest b whole =
      ap (filter above) (sym whole)
      ∙ keep-after above (rest ++ one ∷ []) b
      (All-append (Fails above) rest (one ∷ [])
      (All-weaker (Is Greater) (Fails above) (λ entry is. ap (λ o. is_lt o && true) is) rest
      (below-others cmp total (rest ++ one ∷ []) rest one refl (ordered-left cmp (rest ++ one ∷ []) b parts)))
      (All-cons (Fails above) one [] (ap (λ o. is_lt o && true) (tied_itself total one.0)) (All-nil (Fails above))))
      (All-weaker (Is Less) (Passes above) (λ entry is. ap (λ o. is_lt o && true) is) b
      (above-others cmp total (one ∷ b) b one refl (ordered-right cmp rest (one ∷ b) (subst (IsOrdered cmp) (append_assoc rest (one ∷ []) b) parts))))
    where
      parts : IsOrdered cmp ((rest ++ one ∷ []) ++ b)
      parts = subst (IsOrdered cmp) (sym whole) ordered

  pub below-first : (a rest : List (K × V)) → a ++ one ∷ rest ≡ entries → entries_between cmp Unbounded (Excluded one.0) entries ≡ a
  below-first a rest whole =
      ap (filter below) (sym whole)
      ∙ keep-before below a (one ∷ rest)
      (All-weaker (Is Greater) (Passes below) (λ entry is. ap (λ o. not (is_le o)) is) a
      (below-others cmp total (a ++ one ∷ []) a one refl (ordered-left cmp (a ++ one ∷ []) rest (subst (IsOrdered cmp) (sym (append_assoc a (one ∷ []) rest)) parts))))
      (All-cons (Fails below) one rest (ap (λ o. not (is_le o)) (tied_itself total one.0))
      (All-weaker (Is Less) (Fails below) (λ entry is. ap (λ o. not (is_le o)) is) rest
      (above-others cmp total (one ∷ rest) rest one refl (ordered-right cmp a (one ∷ rest) parts))))
    where
      parts : IsOrdered cmp (a ++ one ∷ rest)
      parts = subst (IsOrdered cmp) (sym whole) ordered

-- the cursor at the gap of a test, where the items on one side of it are found in a list that is the whole one
module _ {X : Type 0} (test : X → Bool) (list found side : List X) (same : found ≡ list) where
  parts : (place : ℕ) → IsGapOf test found place → (take place found ≡ filter (λ x. not (test x)) list) × (drop place found ≡ filter test list)
  parts place gap = (
    sym (gap-before test found place gap) ∙ ap (filter (λ x. not (test x))) same,
    sym (gap-after test found place gap) ∙ ap (filter test) same,
  )

  pub parted : (place : ℕ) → IsGapOf test found place → filter (λ x. not (test x)) list ++ filter test list ≡ list
  parted place gap = (λ i. sym (parts place gap).0 i ++ sym (parts place gap).1 i) ∙ take-append-drop place found ∙ same

  pub sides-from : (place : ℕ) → IsGapOf test found place → side ≡ drop place found → gap_sides list true side ≡ (filter (λ x. not (test x)) list, filter test list)
  sides-from place gap is =
      let after = is ∙ (parts place gap).1 in
      sides-of-after list (filter (λ x. not (test x)) list) side (ap (λ l. filter (λ x. not (test x)) list ++ l) after ∙ parted place gap)
      ∙ ap (λ l. (filter (λ x. not (test x)) list, l)) after

  pub sides-up-to : (place : ℕ) → IsGapOf test found place → side ≡ take place found → gap_sides list false side ≡ (filter (λ x. not (test x)) list, filter test list)
  sides-up-to place gap is =
      let before = is ∙ (parts place gap).0 in
      sides-of-before list side (filter test list) (ap (λ l. l ++ filter test list) before ∙ parted place gap) ∙ ap (λ l. (l, filter test list)) before

-- a cursor that moves over the item after its gap, if there is one
module _ {X A : Type 0} (seen : A → X) (list before given new : List X) (whole : before ++ given ≡ list) where
  pub moved-on : (result : Option A) → MatchOption result ((given ≡ []) × (new ≡ [])) (λ item. given ≡ seen item ∷ new)
      → AreSides list (gap_sides list true new) × IfSome result (λ item. (gap_sides list true new).0 ≡ before ++ seen item ∷ [])
  moved-on None none =
      let now : before ++ new ≡ list = ap (λ l. before ++ l) (none.1 ∙ sym none.0) ∙ whole in
      (subst (AreSides list) (sym (sides-of-after list before new now)) now, tt)
  moved-on (Some item) some =
      let now : (before ++ seen item ∷ []) ++ new ≡ list = append_assoc before (seen item ∷ []) new ∙ ap (λ l. before ++ l) (sym some) ∙ whole in (
        subst (AreSides list) (sym (sides-of-after list (before ++ seen item ∷ []) new now)) now,
        ap (λ sides. sides.0) (sides-of-after list (before ++ seen item ∷ []) new now),
      )

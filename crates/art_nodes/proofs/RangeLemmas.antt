-- Ranges: the pairs within bounds, as parts of sorted bytes and of tables.
use Rattle.std.proofs.Common.{◌≡◌, ℕ, zero, suc, ◌+◌, ◌-◌, ◌<◌, ◌≤◌, true, false, Bool, cond, ◌&&◌, nat_lt, nat_le, List, [], ◌∷◌, length, take, drop, Option, Some, None, refl, sym, ◌∙◌, ap, arith, inl, inr}
use Rattle.std.specs.List.{zip, count_by, filter}
use Rattle.std.specs.declared.ops.Bound.{Bound}
use Rattle.std.specs.declared.ops.Bound.TheVariants.{Included, Excluded, Unbounded}
use Rattle.std.proofs.lemmas.Bool.{cases_lt}
use Rattle.std.proofs.lemmas.Bool.Decides.{nat_tests}
use Rattle.std.proofs.lemmas.List.Sums.{sum_by-cons, count_by-le-length}
use Rattle.art_nodes.specs.ChildMap.{ChildMap, IsAscendingFrom, meets_start, meets_end, pairs_within, table_children}
use Rattle.art_nodes.specs.PairSources.{first_byte, end_byte}
use Rattle.art_nodes.proofs.ChildMapLemmas.{IsAbove, lt-true, lt-false}
use Rattle.std.proofs.lemmas.List.{length-drop, length-take-le, take_rest}
use Rattle.art_nodes.proofs.SortedLemmas.{above-zip}
use Rattle.art_nodes.proofs.TableLemmas.{above-table}

-- the pairs whose byte is at least the first and below the end
abbrev pub pairs_between : {H : Type 0} → ChildMap H → ℕ → ℕ → ChildMap H
pairs_between children first end = filter (λ p. nat_le first p.0 && nat_lt p.0 end) children

le-true : (a b : ℕ) → a ≤ b → nat_le a b ≡ true
le-true a b h = grind (arith, nat_tests)

le-false : (a b : ℕ) → b < a → nat_le a b ≡ false
le-false a b h = grind (arith, nat_tests)

-- a byte meets a bound where it is on the right side of a number
start-number : (start : Bound ℕ) (byte : ℕ) → meets_start start byte ≡ nat_le (first_byte start) byte
start-number (Included n) byte = refl
start-number (Excluded n) byte = grind (arith, nat_tests)
start-number Unbounded byte = grind (arith, nat_tests)

end-number : (end : Bound ℕ) (byte : ℕ) → byte < 256 → meets_end end byte ≡ nat_lt byte (end_byte end)
end-number (Included n) byte fits = grind (arith, nat_tests)
end-number (Excluded n) byte fits = refl
end-number Unbounded byte fits = grind (arith, nat_tests)

-- how many bytes are below a number: one more with a lesser first byte
below-less : (number byte : ℕ) (bytes : List ℕ) → byte < number → count_by (λ b. nat_lt b number) (byte ∷ bytes) ≡ suc (count_by (λ b. nat_lt b number) bytes)
below-less number byte bytes less = sum_by-cons (λ b. cond (nat_lt b number) 1 0) byte bytes ∙ rw (lt-true byte number less) (omega arith)

-- and none where they all are at least so great
below-none : (number low : ℕ) (bytes : List ℕ) → number ≤ low → IsAscendingFrom low bytes → count_by (λ b. nat_lt b number) bytes ≡ 0
below-none number low [] le asc = refl
below-none number low (b ∷ bytes) le asc = sum_by-cons (λ b. cond (nat_lt b number) 1 0) b bytes ∙ rw (lt-false b number (omega (arith, asc.0))) (let rest = below-none number (suc b) bytes (omega (arith, asc.0)) asc.2 in omega (arith, rest))

-- from the first byte that is not below a number on, bytes ascend from that number
pub ascending-drop : (number low : ℕ) (bytes : List ℕ) → IsAscendingFrom low bytes → IsAscendingFrom number (drop (count_by (λ b. nat_lt b number) bytes) bytes)
ascending-drop number low [] asc = tt
ascending-drop number low (b ∷ bytes) asc = elim (cases_lt b number) [
  | inl less ↦ rw (below-less number b bytes less) (ascending-drop number (suc b) bytes asc.2)
  | inr from ↦ rw (below-none number b (b ∷ bytes) from (omega arith, asc.1, asc.2)) (from, asc.1, asc.2)
]

module _ {H : Type 0} where
  -- bounds, as numbers
  pub within-between : (low : ℕ) (children : ChildMap H) (start end : Bound ℕ) → IsAbove low children → pairs_within children start end ≡ pairs_between children (first_byte start) (end_byte end)
  within-between low [] start end above = refl
  within-between low (x ∷ children) start end above =
      rw (start-number start x.0, end-number end x.0 above.1) (ap (λ rest. cond (nat_le (first_byte start) x.0 && nat_lt x.0 (end_byte end)) (x ∷ rest) rest) (within-between (suc x.0) children start end above.2))

  -- none is below the least byte
  between-none : (low : ℕ) (children : ChildMap H) (first end : ℕ) → end ≤ low → IsAbove low children → pairs_between children first end ≡ []
  between-none low [] first end le above = refl
  between-none low (x ∷ children) first end le above =
      let past : nat_lt x.0 end ≡ false = lt-false x.0 end (omega (arith, above.0)) in
      let rest = between-none (suc x.0) children first end (omega (arith, above.0)) above.2 in
      grind (arith, nat_tests, past, rest)

  -- bytes below the first add nothing
  sorted-drop : (low first end : ℕ) (bytes : List ℕ) (children : List H) → length children ≡ length bytes → IsAscendingFrom low bytes → pairs_between (zip bytes children) first end ≡ pairs_between (zip (drop (count_by (λ b. nat_lt b first) bytes) bytes) (drop (count_by (λ b. nat_lt b first) bytes) children)) first end
  sorted-drop low first end [] [] same asc = refl
  sorted-drop low first end [] (x ∷ children) same asc = absurd (omega arith)
  sorted-drop low first end (b ∷ bytes) [] same asc = absurd (omega arith)
  sorted-drop low first end (b ∷ bytes) (x ∷ children) same asc = elim (cases_lt b first) [
    | inl less ↦ rw (below-less first b bytes less, le-false first b less) (sorted-drop (suc b) first end bytes children (omega arith) asc.2)
    | inr from ↦ rw (below-none first b (b ∷ bytes) from (omega arith, asc.1, asc.2)) refl
  ]

  -- of bytes that are not below the first, those below the end come first
  sorted-take : (low first end : ℕ) (bytes : List ℕ) (children : List H) → length children ≡ length bytes → IsAscendingFrom low bytes → first ≤ low → pairs_between (zip bytes children) first end ≡ zip (take (count_by (λ b. nat_lt b end) bytes) bytes) (take (count_by (λ b. nat_lt b end) bytes) children)
  sorted-take low first end [] [] same asc le = refl
  sorted-take low first end [] (x ∷ children) same asc le = absurd (omega arith)
  sorted-take low first end (b ∷ bytes) [] same asc le = absurd (omega arith)
  sorted-take low first end (b ∷ bytes) (x ∷ children) same asc le = elim (cases_lt b end) [
    | inl less ↦
        rw (below-less end b bytes less, le-true first b (omega (arith, asc.0)), lt-true b end less)
        (ap (λ rest. (b, x) ∷ rest) (sorted-take (suc b) first end bytes children (omega arith) asc.2 (omega (arith, asc.0))))
    | inr from ↦
        let above : IsAbove b (zip (b ∷ bytes) (x ∷ children)) = above-zip b (b ∷ bytes) (x ∷ children) same (omega arith, asc.1, asc.2) in
        rw (below-none end b (b ∷ bytes) from (omega arith, asc.1, asc.2)) (between-none b (zip (b ∷ bytes) (x ∷ children)) first end from above)
  ]

  -- the pairs between two numbers are a part of the bytes with a part of the children beside it
  pub sorted-between : (first end : ℕ) (bytes : List ℕ) (children : List H) → length children ≡ length bytes → IsAscendingFrom 0 bytes → (later : List ℕ) (beside : List H) → later ≡ drop (count_by (λ b. nat_lt b first) bytes) bytes → beside ≡ drop (count_by (λ b. nat_lt b first) bytes) children → zip (take (count_by (λ b. nat_lt b end) later) later) (take (count_by (λ b. nat_lt b end) later) beside) ≡ pairs_between (zip bytes children) first end
  sorted-between first end bytes children same asc later beside later_is beside_is =
      let from = count_by (λ b. nat_lt b first) bytes in
      rw (later_is, beside_is)
      (sym (sorted-drop 0 first end bytes children same asc
      ∙ sorted-take first first end (drop from bytes) (drop from children) (simp length-drop (omega arith)) (ascending-drop first 0 bytes asc) (omega arith)))

  -- the places of a table up to a byte
  table-take : (byte first end n : ℕ) (places : List (Option H)) → first ≤ byte → end ≡ byte + n → byte + length places ≤ 256 → pairs_between (table_children byte places) first end ≡ table_children byte (take n places)
  table-take byte first end zero [] le at fits = refl
  table-take byte first end (suc n) [] le at fits = refl
  table-take byte first end zero (x ∷ places) le at fits = between-none byte (table_children byte (x ∷ places)) first end (omega arith) (above-table byte (x ∷ places) fits)
  table-take byte first end (suc n) (None ∷ places) le at fits = table-take (suc byte) first end n places (omega arith) (omega arith) (omega arith)
  table-take byte first end (suc n) (Some child ∷ places) le at fits =
      rw (le-true first byte le, lt-true byte end (omega arith)) (ap (λ rest. (byte, child) ∷ rest) (table-take (suc byte) first end n places (omega arith) (omega arith) (omega arith)))

  -- and from another on
  table-part : (byte first end m n : ℕ) (places : List (Option H)) → first ≡ byte + m → end ≡ first + n → byte + length places ≤ 256 → pairs_between (table_children byte places) first end ≡ table_children first (take n (drop m places))
  table-part byte first end zero n places from at fits =
      let same : byte ≡ first = omega arith in
      table-take byte first end n places (omega arith) (omega arith) fits ∙ ap (λ b. table_children b (take n places)) same
  table-part byte first end (suc m) zero [] from at fits = refl
  table-part byte first end (suc m) (suc n) [] from at fits = refl
  table-part byte first end (suc m) n (None ∷ places) from at fits = table-part (suc byte) first end m n places (omega arith) at (omega arith)
  table-part byte first end (suc m) n (Some child ∷ places) from at fits =
      rw (le-false first byte (omega arith)) (table-part (suc byte) first end m n places (omega arith) at (omega arith))

  -- the pairs between two numbers are those of a part of the table
  pub table-between : (first end : ℕ) (places : List (Option H)) → first ≤ end → length places ≤ 256 → table_children first (take (end - first) (drop first places)) ≡ pairs_between (table_children 0 places) first end
  table-between first end places le fits = sym (table-part 0 first end first (end - first) places (omega arith) (omega arith) (omega arith))

-- what lies beside the part of a list that a test counts is as long as the count
pub length-counted : {X Y : Type 0} (test : X → Bool) (xs : List X) (ys : List Y) (from kept : ℕ) → length ys ≡ length xs → kept ≡ count_by test (take (length xs - from) (drop from xs))
    → length (take kept (take (length ys - from) (drop from ys))) ≡ kept
length-counted test xs ys from kept beside is =
    let later = take (length xs - from) (drop from xs) in
    length-take-le kept (take (length ys - from) (drop from ys)) (omega (arith, beside, is, count_by-le-length test later, ap length (take_rest xs from), ap length (take_rest ys from), length-drop from xs, length-drop from ys))

-- Tables with a place for each byte, as child maps.
use Rattle.std.proofs.Common.{◌≡◌, ℕ, zero, suc, ◌+◌, ◌<◌, ◌≤◌, List, [], ◌∷◌, ◌++◌, length, get_or, set, Option, Some, None, refl, sym, ◌∙◌, ap, arith, Bool, if◌then◌else◌}
use Rattle.std.specs.Option.{is_some}
use Rattle.art_nodes.specs.ChildMap.{child_at, with_child, without_child, table_children}
use Rattle.art_nodes.proofs.ChildMapLemmas.{IsAbove, above-lower, with_child-front, with_child-same, with_child-later, child_at-front, child_at-same, child_at-later, without_child-front, without_child-same, without_child-later, length-with_child, length-without_child}

module _ {H : Type 0} where
  -- the bytes of a table ascend from its first on
  pub above-table : (first : ℕ) (table : List (Option H)) → first + length table ≤ 256 → IsAbove first (table_children first table)
  above-table first [] fits = tt
  above-table first (None ∷ table) fits = above-lower (suc first) first (table_children (suc first) table) (omega arith) (above-table (suc first) table (omega arith))
  above-table first (Some child ∷ table) fits = (omega arith, omega arith, above-table (suc first) table (omega arith))

  pub length-table : (first : ℕ) (table : List (Option H)) → length (table_children first table) ≤ length table
  length-table first [] = omega arith
  length-table first (None ∷ table) = let rest = length-table (suc first) table in omega (arith, rest)
  length-table first (Some child ∷ table) = let rest = length-table (suc first) table in omega (arith, rest)

  -- the child under a byte is what its place holds
  pub child_at-table : (first : ℕ) (table : List (Option H)) (byte place : ℕ) → byte ≡ first + place → first + length table ≤ 256 → child_at (table_children first table) byte ≡ get_or table place None
  child_at-table first [] byte place at fits = refl
  child_at-table first (None ∷ table) byte zero at fits = child_at-front (suc first) byte (table_children (suc first) table) (omega arith) (above-table (suc first) table (omega arith))
  child_at-table first (None ∷ table) byte (suc place) at fits = child_at-table (suc first) table byte place (omega arith) (omega arith)
  child_at-table first (Some child ∷ table) byte zero at fits = child_at-same first byte child (table_children (suc first) table) (omega arith)
  child_at-table first (Some child ∷ table) byte (suc place) at fits =
      child_at-later first byte child (table_children (suc first) table) (λ e. omega arith) ∙ child_at-table (suc first) table byte place (omega arith) (omega arith)

  -- a child put into a place is written under the byte
  pub with_child-table : (first : ℕ) (table : List (Option H)) (byte place : ℕ) (child : H) → byte ≡ first + place → place < length table → first + length table ≤ 256 → with_child (table_children first table) byte child ≡ table_children first (set table place (Some child))
  with_child-table first [] byte place child at within fits = absurd (omega arith)
  with_child-table first (None ∷ table) byte zero child at within fits =
      let same : byte ≡ first = omega arith in
      with_child-front (suc first) byte (table_children (suc first) table) child (omega arith) (above-table (suc first) table (omega arith)) ∙ ap (λ b. (b, child) ∷ table_children (suc first) table) same
  with_child-table first (Some old ∷ table) byte zero child at within fits =
      let same : byte ≡ first = omega arith in
      with_child-same first byte old (table_children (suc first) table) child (sym same) (above-table (suc first) table (omega arith)) ∙ ap (λ b. (b, child) ∷ table_children (suc first) table) same
  with_child-table first (None ∷ table) byte (suc place) child at within fits = with_child-table (suc first) table byte place child (omega arith) (omega arith) (omega arith)
  with_child-table first (Some old ∷ table) byte (suc place) child at within fits =
      with_child-later first byte old (table_children (suc first) table) child (omega arith)
      ∙ ap (λ rest. (first, old) ∷ rest) (with_child-table (suc first) table byte place child (omega arith) (omega arith) (omega arith))

  -- a place that is emptied takes out the byte
  pub without_child-table : (first : ℕ) (table : List (Option H)) (byte place : ℕ) → byte ≡ first + place → first + length table ≤ 256 → without_child (table_children first table) byte ≡ table_children first (set table place None)
  without_child-table first [] byte place at fits = refl
  without_child-table first (None ∷ table) byte zero at fits = without_child-front (suc first) byte (table_children (suc first) table) (omega arith) (above-table (suc first) table (omega arith))
  without_child-table first (Some old ∷ table) byte zero at fits = without_child-same first byte old (table_children (suc first) table) (omega arith) (above-table (suc first) table (omega arith))
  without_child-table first (None ∷ table) byte (suc place) at fits = without_child-table (suc first) table byte place (omega arith) (omega arith)
  without_child-table first (Some old ∷ table) byte (suc place) at fits =
      without_child-later first byte old (table_children (suc first) table) (λ e. omega arith)
      ∙ ap (λ rest. (first, old) ∷ rest) (without_child-table (suc first) table byte place (omega arith) (omega arith))

  -- a child put into an empty place is one more, into a filled one none
  pub length-table_filled : (table : List (Option H)) (place : ℕ) (child : H) (was : Bool) → place < length table → length table ≤ 256 → is_some (get_or table place None) ≡ was → length (table_children 0 (set table place (Some child))) ≡ (if was then length (table_children 0 table) else length (table_children 0 table) + 1)
  length-table_filled table place child was within fits is =
      ap length (sym (with_child-table 0 table place place child (omega arith) within (omega arith)))
      ∙ length-with_child 0 place (table_children 0 table) child (above-table 0 table (omega arith))
      ∙ ap (λ x. if is_some x then length (table_children 0 table) else length (table_children 0 table) + 1) (child_at-table 0 table place place (omega arith) (omega arith))
      ∙ ap (λ b. if b then length (table_children 0 table) else length (table_children 0 table) + 1) is

  -- a filled place that is emptied is one less, an empty one none
  pub length-table_emptied : (table : List (Option H)) (place : ℕ) (was : Bool) → length table ≤ 256 → is_some (get_or table place None) ≡ was → length (table_children 0 (set table place None)) + (if was then 1 else 0) ≡ length (table_children 0 table)
  length-table_emptied table place was fits is =
      let emptied = without_child-table 0 table place place (omega arith) (omega arith) in
      let counted = length-without_child 0 place (table_children 0 table) (above-table 0 table (omega arith)) in
      let was_there = ap is_some (child_at-table 0 table place place (omega arith) (omega arith)) ∙ is in
      rw (← emptied, ← was_there) counted

  -- the places of one table after those of another
  pub table-append : (first : ℕ) (front back : List (Option H)) → table_children first (front ++ back) ≡ table_children first front ++ table_children (first + length front) back
  table-append first [] back = ap (λ n. table_children n back) (omega arith)
  table-append first (None ∷ front) back = table-append (suc first) front back ∙ ap (λ n. table_children (suc first) front ++ table_children n back) (omega arith)
  table-append first (Some child ∷ front) back = ap (λ rest. (first, child) ∷ rest) (table-append (suc first) front back ∙ ap (λ n. table_children (suc first) front ++ table_children n back) (omega arith))

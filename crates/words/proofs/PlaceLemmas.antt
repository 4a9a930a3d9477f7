-- The places of words that stand one behind the other.
use Rattle.std.proofs.Common.{◌≡◌, ◌∙◌, ℕ, zero, suc, ◌+◌, ◌%◌, ◌^◌, ◌<◌, ◌≤◌, List, [], ◌∷◌, ◌++◌, length, take, drop, sym, ap, subst, arith, add-zero}
use Rattle.std.proofs.Math.Nat.{mod-eq_of_lt}
use Rattle.std.proofs.lemmas.List.{length-append, length-drop, length-take}
use Rattle.art_map.specs.Ranges.{IsPartOf}
use Rattle.art_pages.specs.Retaining.{ChangesInTurn, ChangesValue}
use denote.Param.Members.{Mut}
use denote.Ref.{Bor, MutBor}
use Rattle.words.specs.Places.{CountsFrom, Counts}

module _ {K : Type 0} where
  counts_later : (k : ℕ) (entries : List (K × ℕ)) → Counts entries → Counts (drop k entries)
  counts_later zero entries counts = counts
  counts_later (suc k) [] counts = counts
  counts_later (suc k) (entry ∷ entries) (n, counted) = counts_later k entries (suc n, counted.1)

  counts_first : (k n : ℕ) (entries : List (K × ℕ)) → CountsFrom n entries → CountsFrom n (take k entries)
  counts_first zero n entries counted = tt
  counts_first (suc k) n [] counted = tt
  counts_first (suc k) n (entry ∷ entries) counted = (counted.0, counts_first k (suc n) entries counted.1)

  -- entries that stand next to each other count up as the whole does
  pub counts_part : (entries part : List (K × ℕ)) → CountsFrom 0 entries → IsPartOf entries part → Counts part
  counts_part entries part counted (start, count, is) =
      let (n, later) = counts_later start entries (0, counted) in
      subst Counts (sym is) (n, counts_first count n (drop start entries) later)

  -- and are no more
  pub part_most : (entries part : List (K × ℕ)) → IsPartOf entries part → length part ≤ length entries
  part_most entries part (start, count, is) = rw is (omega (arith, length-take count (drop start entries), length-drop start entries))

  -- the last of entries that count up from a number
  counts_last : (n : ℕ) (entries : List (K × ℕ)) (last : K × ℕ) → CountsFrom n (entries ++ last ∷ []) → last.1 ≡ n + length entries
  counts_last n [] last counted = counted.0 ∙ sym (add-zero n)
  counts_last n (entry ∷ entries) last counted = omega (arith, counts_last (suc n) entries last counted.1)

  -- the first and the last of entries that count up are as far apart as there are entries
  pub counts_ends : (entries rest middle : List (K × ℕ)) (first last : K × ℕ) → Counts entries → entries ≡ first ∷ rest → rest ≡ middle ++ last ∷ [] → (last.1 ≡ first.1 + (length middle + 1)) × (length entries ≡ length middle + 2)
  counts_ends entries rest middle first last counts is ends =
      let whole : entries ≡ first ∷ (middle ++ last ∷ []) = is ∙ ap (λ others. first ∷ others) ends in
      let counted : CountsFrom counts.0 (first ∷ (middle ++ last ∷ [])) = subst (CountsFrom counts.0) whole counts.1 in
      let at : last.1 ≡ suc counts.0 + length middle = counts_last (suc counts.0) middle last counted.1 in
      let start : first.1 ≡ counts.0 = counted.0 in
      (omega arith, omega (arith, ap length whole, length-append middle (last ∷ [])))

-- where each call of a closure writes the number that it has, and has the next one afterwards, the places count up
module _ {F K : Type 0} (g : Mut F (Bor K × (MutBor ℕ × Unit {0})) (Unit {0} × (MutBor ℕ × Unit {0}))) (next : F → ℕ)
    (counts : (f : F) (key : K) (value now : ℕ) (f' : F) → ChangesValue g f key value now f' → (now ≡ next f) × (next f' ≡ (next f + 1) % 2 ^ 64)) where
  pub numbered : (f : F) (old new : List (K × ℕ)) → ChangesInTurn g f old new → next f + length old < 2 ^ 64 → CountsFrom (next f) new
  numbered f [] new none fits = rw none tt
  numbered f (entry ∷ entries) new (value, f', rest, called, onwards, is) fits =
      let one = counts f entry.0 entry.1 value f' called in
      let small : next f + 1 < 2 ^ 64 = omega (arith, fits) in
      let wrapped = mod-eq_of_lt small in
      let up : next f' ≡ suc (next f) = omega (arith, one.1, wrapped) in
      let later = numbered f' entries rest onwards (omega (arith, fits, up)) in
      rw is (one.0, subst (λ n. CountsFrom n rest) up later)

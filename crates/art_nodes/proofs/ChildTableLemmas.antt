-- Tables with marked places: children in a range of places, writes and removals.
use Rattle.std.proofs.Common.{◌≡◌, ◌≢◌, ℕ, zero, suc, ◌+◌, ◌-◌, ◌<◌, ◌≤◌, Bool, true, false, if◌then◌else◌, List, [], ◌∷◌, ◌++◌, length, get_or, set, take, drop, Option, Some, None, slice_get, replicate, refl, sym, ◌∙◌, ap, arith, inl, inr}
use Rattle.std.specs.Option.{is_some}
use Rattle.std.proofs.lemmas.List.{length-set, get_or-set_same, get_or-set_other, get_or-replicate, length-replicate, ext_get_or, get_or-drop, length-drop, drop_more, take_all}
use Rattle.std.proofs.lemmas.Bool.{cases_lt}
use Rattle.std.proofs.lemmas.Option.{slice_get-get_or}
use Rattle.art_nodes.specs.ByteSet.{marked_places}
use Rattle.art_nodes.specs.ChildMap.{table_children}
use Rattle.art_nodes.specs.ChildTable.{children_within}
use Rattle.art_nodes.proofs.ChildMapLemmas.{cases_eq}
use Rattle.art_nodes.proofs.ListLemmas.{slice_get-set_same, slice_get-set_other}
use Rattle.art_nodes.proofs.PairLemmas.{table-drop_empty, table-take_last}

module _ {H : Type 0} where
  -- no place from the first on, below the end, has a child
  abbrev IsEmptyWithin : List (Option H) → ℕ → ℕ → Type 0
  IsEmptyWithin places first end = (byte : ℕ) → first ≤ byte → byte < end → get_or places byte None ≡ None

  if-same : (b : Bool) (x : Option H) → x ≡ (if b then x else x)
  if-same true x = refl
  if-same false x = refl

  pub length-marked : (is_marked : ℕ → Bool) (byte : ℕ) (children : List H) → length (marked_places is_marked byte children) ≡ length children
  length-marked is_marked byte [] = refl
  length-marked is_marked byte (child ∷ children) = ap suc (length-marked is_marked (suc byte) children)

  -- what a place holds
  marked-from : (is_marked : ℕ → Bool) (byte : ℕ) (children : List H) (place at : ℕ) → at ≡ byte + place → get_or (marked_places is_marked byte children) place None ≡ (if is_marked at then slice_get children place else None)
  marked-from is_marked byte [] place at is = if-same (is_marked at) None
  marked-from is_marked byte (child ∷ children) zero at is = let same : byte ≡ at = omega arith in ap (λ n. if is_marked n then Some child else None) same
  marked-from is_marked byte (child ∷ children) (suc place) at is = marked-from is_marked (suc byte) children place at (omega arith)

  marked-at : (is_marked : ℕ → Bool) (children : List H) (place : ℕ) → get_or (marked_places is_marked 0 children) place None ≡ (if is_marked place then slice_get children place else None)
  marked-at is_marked children place = marked-from is_marked 0 children place place (omega arith)

  pub marked-some : (is_marked : ℕ → Bool) (children : List H) (place : ℕ) (d : H) → place < length children → is_marked place ≡ true → get_or (marked_places is_marked 0 children) place None ≡ Some (get_or children place d)
  marked-some is_marked children place d within marked =
      marked-at is_marked children place ∙ ap (λ b. if b then slice_get children place else None) marked ∙ slice_get-get_or children place d within

  pub marked-empty : (is_marked : ℕ → Bool) (children : List H) (place : ℕ) → is_marked place ≡ false → get_or (marked_places is_marked 0 children) place None ≡ None
  marked-empty is_marked children place unmarked = marked-at is_marked children place ∙ ap (λ b. if b then slice_get children place else None) unmarked

  is_some-if : (b : Bool) (child : H) → b ≡ is_some (if b then Some child else None)
  is_some-if true child = refl
  is_some-if false child = refl

  filled-from : (is_marked : ℕ → Bool) (byte : ℕ) (children : List H) (place at : ℕ) → at ≡ byte + place → place < length children → is_marked at ≡ is_some (get_or (marked_places is_marked byte children) place None)
  filled-from is_marked byte [] place at is within = absurd (omega arith)
  filled-from is_marked byte (child ∷ children) zero at is within = let same : at ≡ byte = omega arith in ap is_marked same ∙ is_some-if (is_marked byte) child
  filled-from is_marked byte (child ∷ children) (suc place) at is within = filled-from is_marked (suc byte) children place at (omega arith) (omega arith)

  -- a place has a child exactly where it is marked
  pub filled-marked : (is_marked : ℕ → Bool) (children : List H) (place : ℕ) → place < length children → is_marked place ≡ is_some (get_or (marked_places is_marked 0 children) place None)
  filled-marked is_marked children place within = filled-from is_marked 0 children place place (omega arith) within

  -- nothing is marked in a table without children
  pub marked-none : (is_marked : ℕ → Bool) (children : List H) → ((byte : ℕ) → is_marked byte ≡ false) → marked_places is_marked 0 children ≡ replicate (length children) None
  marked-none is_marked children none = ext_get_or None _ _ (length-marked is_marked 0 children ∙ sym (length-replicate _ _)) (λ place within.
      marked-at is_marked children place
      ∙ ap (λ b. if b then slice_get children place else None) (none place)
      ∙ sym (get_or-replicate (length children) place None None (simp length-marked at within)))

  -- a child that is put into a place and marked
  pub marked-filled : (was is : ℕ → Bool) (children : List H) (place : ℕ) (child : H) → place < length children → is place ≡ true → ((other : ℕ) → other ≢ place → is other ≡ was other) → marked_places is 0 (set children place child) ≡ set (marked_places was 0 children) place (Some child)
  marked-filled was is children place child within marked kept =
      let same_length : length (marked_places is 0 (set children place child)) ≡ length (set (marked_places was 0 children) place (Some child)) = simp (length-marked, length-set) in
      ext_get_or None _ _ same_length (λ other below.
      elim (cases_eq other place) [
        | inl same ↦ rw same (
            marked-at is (set children place child) place
            ∙ ap (λ b. if b then slice_get (set children place child) place else None) marked
            ∙ slice_get-set_same children place child within
            ∙ sym (get_or-set_same (marked_places was 0 children) place (Some child) None (simp length-marked within)))
        | inr apart ↦
            marked-at is (set children place child) other
            ∙ ap (λ b. if b then slice_get (set children place child) other else None) (kept other apart)
            ∙ ap (λ c. if was other then c else None) (slice_get-set_other children place other child (λ e. apart (sym e)))
            ∙ sym (marked-at was children other)
            ∙ sym (get_or-set_other (marked_places was 0 children) place other (Some child) None apart)
      ])

  -- a place that is marked no more
  pub marked-emptied : (was is : ℕ → Bool) (children : List H) (place : ℕ) → place < length children → is place ≡ false → ((other : ℕ) → other ≢ place → is other ≡ was other) → marked_places is 0 children ≡ set (marked_places was 0 children) place None
  marked-emptied was is children place within unmarked kept =
      let same_length : length (marked_places is 0 children) ≡ length (set (marked_places was 0 children) place None) = simp (length-marked, length-set) in
      ext_get_or None _ _ same_length (λ other below.
      elim (cases_eq other place) [
        | inl same ↦ rw same (
            marked-at is children place
            ∙ ap (λ b. if b then slice_get children place else None) unmarked
            ∙ sym (get_or-set_same (marked_places was 0 children) place None None (simp length-marked within)))
        | inr apart ↦
            marked-at is children other
            ∙ ap (λ b. if b then slice_get children other else None) (kept other apart)
            ∙ sym (marked-at was children other)
            ∙ sym (get_or-set_other (marked_places was 0 children) place other None None apart)
      ])

  -- a part of a table begins with its first place
  within-step : (places : List (Option H)) (first end : ℕ) (place : Option H) → first < end → end ≤ length places → get_or places first None ≡ place → children_within places first end ≡ table_children first (place ∷ take (end - suc first) (drop (suc first) places))
  within-step places first end place less fits is =
      let more : end - first ≡ suc (end - suc first) = omega arith in
      let next : first + 1 ≡ suc first = omega arith in
      ap (λ rest. table_children first (take (end - first) rest)) (drop_more places first None (omega arith))
      ∙ ap (λ n. table_children first (take n (get_or places first None ∷ drop (first + 1) places))) more
      ∙ ap (λ x. table_children first (x ∷ take (end - suc first) (drop (first + 1) places))) is
      ∙ ap (λ n. table_children first (place ∷ take (end - suc first) (drop n places))) next

  -- and ends with its last
  within-last_empty : (places : List (Option H)) (first last : ℕ) → first ≤ last → last < length places → get_or places last None ≡ None → children_within places first (suc last) ≡ children_within places first last
  within-last_empty places first last le within is =
      let more : suc last - first ≡ last - first + 1 = omega arith in
      let place : first + (last - first) ≡ last = omega arith in
      ap (λ n. table_children first (take n (drop first places))) more
      ∙ table-drop_empty first (drop first places) (last - first) None (simp length-drop (omega arith)) (get_or-drop first places (last - first) None ∙ ap (λ n. get_or places n None) place ∙ is)

  within-last_filled : (places : List (Option H)) (first last : ℕ) (child : H) → first ≤ last → last < length places → get_or places last None ≡ Some child → children_within places first (suc last) ≡ children_within places first last ++ (last, child) ∷ []
  within-last_filled places first last child le within is =
      let more : suc last - first ≡ last - first + 1 = omega arith in
      let place : first + (last - first) ≡ last = omega arith in
      ap (λ n. table_children first (take n (drop first places))) more
      ∙ table-take_last first (drop first places) (last - first) None child (simp length-drop (omega arith)) (get_or-drop first places (last - first) None ∙ ap (λ n. get_or places n None) place ∙ is)
      ∙ ap (λ n. children_within places first last ++ (n, child) ∷ []) place

  none-within : (places : List (Option H)) (first end : ℕ) → end ≤ first → children_within places first end ≡ []
  none-within places first end le = let none : end - first ≡ 0 = omega arith in ap (λ n. table_children first (take n (drop first places))) none

  -- empty places before and after add nothing
  within-front : (count : ℕ) (places : List (Option H)) (first middle end : ℕ) → middle ≡ first + count → middle ≤ end → end ≤ length places → IsEmptyWithin places first middle → children_within places first end ≡ children_within places middle end
  within-front zero places first middle end at le fits empty = ap (λ n. children_within places n end) (omega arith)
  within-front (suc count) places first middle end at le fits empty =
      within-step places first end None (omega arith) fits (empty first (omega arith) (omega arith))
      ∙ within-front count places (suc first) middle end (omega arith) le fits (λ byte from under. empty byte (omega arith) under)

  within-back : (count : ℕ) (places : List (Option H)) (first middle end : ℕ) → end ≡ middle + count → first ≤ middle → end ≤ length places → IsEmptyWithin places middle end → children_within places first end ≡ children_within places first middle
  within-back zero places first middle end at le fits empty = ap (children_within places first) (omega arith)
  within-back (suc count) places first middle end at le fits empty =
      let last : end ≡ suc (middle + count) = omega arith in
      ap (children_within places first) last
      ∙ within-last_empty places first (middle + count) (omega arith) (omega arith) (empty (middle + count) (omega arith) (omega arith))
      ∙ within-back count places first middle (middle + count) refl le (omega arith) (λ byte from under. empty byte from (omega arith))

  pub within-empty : (places : List (Option H)) (first end : ℕ) → end ≤ length places → IsEmptyWithin places first end → children_within places first end ≡ []
  within-empty places first end fits empty = elim (cases_lt first end) [
    | inl less ↦ within-front (end - first) places first end end (omega arith) (omega arith) fits empty ∙ none-within places end end (omega arith)
    | inr le ↦ none-within places first end le
  ]

  -- the first child, where no place before it has one, and the last
  pub within-first : (places : List (Option H)) (first end byte : ℕ) (child : H) → end ≤ length places → first ≤ byte → byte < end → get_or places byte None ≡ Some child → IsEmptyWithin places first byte → children_within places first end ≡ (byte, child) ∷ children_within places (byte + 1) end
  within-first places first end byte child fits from before filled empty =
      let next : suc byte ≡ byte + 1 = omega arith in
      within-front (byte - first) places first byte end (omega arith) (omega arith) fits empty
      ∙ within-step places byte end (Some child) before fits filled
      ∙ ap (λ n. (byte, child) ∷ children_within places n end) next

  pub within-last : (places : List (Option H)) (first end byte : ℕ) (child : H) → end ≤ length places → first ≤ byte → byte < end → get_or places byte None ≡ Some child → IsEmptyWithin places (byte + 1) end → children_within places first end ≡ children_within places first byte ++ (byte, child) ∷ []
  within-last places first end byte child fits from before filled empty =
      within-back (end - suc byte) places first (suc byte) end (omega arith) (omega arith) fits (λ other after under. empty other (omega arith) under)
      ∙ within-last_filled places first byte child from (omega arith) filled

  -- all places
  pub within-all : (places : List (Option H)) (end : ℕ) → length places ≡ end → children_within places 0 end ≡ table_children 0 places
  within-all places end all = ap (table_children 0) (take_all (end - 0) places (omega arith))

-- Indirect nodes: writes and removals of an index and its pointer.
use Rattle.std.proofs.Common.{◌≡◌, ℕ, zero, suc, ◌+◌, ◌-◌, ◌<◌, ◌≤◌, ◌≢◌, cond, List, [], ◌∷◌, ◌++◌, length, get_or, set, take, drop, map, Option, Some, None, slice_get, nat_lt, eqb, eq-eqb, count_by, refl, sym, ◌∙◌, ap, subst, arith, if◌then◌else◌, inl, inr}
use Rattle.std.specs.List.{swap_remove, range_with_len}
use Rattle.std.specs.List.Sorted.{IsPermutation}
use Rattle.std.proofs.lemmas.Bool.Decides.{nat_tests}
use Rattle.std.proofs.lemmas.List.{ext_get_or, get_or-map, get_or_default, get_or_append_left, length-append, get_or-set_same, get_or-set_other, length-map, length-set, set-get_or, map-append, length-drop, length-take, get_or-drop, get_or-take}
use Rattle.std.proofs.lemmas.List.Sums.{sum_by-cons, sum_by-set}
use Rattle.std.proofs.lemmas.List.Sorted.{IsPermutation-refl, IsPermutation-map, length_permutation}
use Rattle.std.proofs.lemmas.Option.{slice_get-get_or, get_or_from_slice_get}
use Rattle.std.proofs.lemmas.List.FromFn.{fill_by_all}
use Rattle.std.proofs.lemmas.Bool.{cases_lt}
use Rattle.std.proofs.Math.Seq.{get_or-append_seam}
use Rattle.art_nodes.specs.ChildMap.{ChildMap, child_at, with_child, without_child, table_children}
use Rattle.art_nodes.proofs.TableLemmas.{child_at-table, with_child-table, without_child-table}
use Rattle.art_header.specs.Header.{Header}
use Rattle.art_nodes.specs.Inner.{IsInner, inner_with}
use Rattle.art_nodes.specs.IndirectNode.{named_pointer, named_pointers, has_index, AreBelow, AreKept, IsIndirectNode}
use Rattle.art_nodes.proofs.ListLemmas.{slice_get-set_same, slice_get-set_other, slice_get-push_before, slice_get-push_at, length-swap_remove, slice_get-swap_remove_at, slice_get-swap_remove_other, one_if, times, times-cons, times-range, permutation_from_times}
use Rattle.art_nodes.proofs.ChildMapLaws.{sound_removed}
use Rattle.art_nodes.proofs.ChildMapLemmas.{cases_eq}

-- how many places have an index
abbrev uses : ℕ → List (Option ℕ) → ℕ
uses index indices = count_by (has_index index) indices

-- how often a place counts
abbrev counts : ℕ → Option ℕ → ℕ
counts index place = cond (has_index index place) 1 0

-- each index below n is at one place, and no other is at any
abbrev pub IsNamedOnce : List (Option ℕ) → ℕ → Type 0
IsNamedOnce indices n = (index : ℕ) → uses index indices ≡ (if nat_lt index n then 1 else 0)

-- the index, if there is one
abbrev option_or : Option ℕ → ℕ → ℕ
option_or None d = d
option_or (Some index) d = index

-- the indices where a pointer is taken out, and the last one, which this byte has, takes its place
abbrev pub moved_to : List (Option ℕ) → ℕ → ℕ → ℕ → List (Option ℕ)
moved_to indices place index last = set (set indices last (Some index)) place None

counts-same : (index : ℕ) → counts index (Some index) ≡ 1
counts-same index = ap one_if (eq-eqb index index refl)

uses-set : (index : ℕ) (indices : List (Option ℕ)) (place : ℕ) (now : Option ℕ) → place < length indices → uses index (set indices place now) + counts index (get_or indices place None) ≡ uses index indices + counts index now
uses-set index indices place now within = sum_by-set (counts index) indices place now None within

-- the index at a place is below n
pub named_within : (indices : List (Option ℕ)) (n place index : ℕ) → IsNamedOnce indices n → place < length indices → get_or indices place None ≡ Some index → index < n
named_within indices n place index once within filled =
    let change = uses-set index indices place None within in
    let counted : counts index (get_or indices place None) ≡ 1 = ap (counts index) filled ∙ counts-same index in
    let all = once index in
    grind (arith, nat_tests, change, counted, all)

-- and no other place has it
pub named_apart : (indices : List (Option ℕ)) (n place other index : ℕ) → IsNamedOnce indices n → place < length indices → other < length indices → other ≢ place → get_or indices place None ≡ Some index → get_or indices other None ≡ Some index → ⊥
named_apart indices n place other index once within other_within differs filled other_filled =
    let change = uses-set index indices place None within in
    let counted : counts index (get_or indices place None) ≡ 1 = ap (counts index) filled ∙ counts-same index in
    let other_stays : get_or (set indices place None) other None ≡ Some index = get_or-set_other indices place other None None differs ∙ other_filled in
    let short : other < length (set indices place None) = simp length-set other_within in
    let other_change = uses-set index (set indices place None) other None short in
    let other_counted : counts index (get_or (set indices place None) other None) ≡ 1 = ap (counts index) other_stays ∙ counts-same index in
    let all = once index in
    grind (arith, nat_tests, change, counted, other_change, other_counted, all)

-- a new index for a new pointer
pub named_once-push : (indices : List (Option ℕ)) (n place : ℕ) → IsNamedOnce indices n → place < length indices → get_or indices place None ≡ None → IsNamedOnce (set indices place (Some n)) (n + 1)
named_once-push indices n place once within empty = λ index.
    let change = uses-set index indices place (Some n) within in
    let counted : counts index (get_or indices place None) ≡ 0 = ap (counts index) empty in
    let all = once index in
    grind (arith, nat_tests, change, counted, all)

pub below_from_once : (indices : List (Option ℕ)) (n : ℕ) → IsNamedOnce indices n → AreBelow n indices
below_from_once indices n once = λ place index within filled. named_within indices n place index once within filled

module _ {H : Type 0} where
  at_place : (pointers : List H) (indices : List (Option ℕ)) (place : ℕ) → place < length indices → get_or (named_pointers pointers indices) place None ≡ named_pointer pointers (get_or indices place None)
  at_place pointers indices place within = get_or-map (named_pointer pointers) indices place None None within

  -- the child under a byte is the pointer that its index names
  pub child_at-named : (pointers : List H) (indices : List (Option ℕ)) (byte index : ℕ) (d : H) → byte < length indices → length indices ≤ 256 → get_or indices byte None ≡ Some index → index < length pointers → child_at (table_children 0 (named_pointers pointers indices)) byte ≡ Some (get_or pointers index d)
  child_at-named pointers indices byte index d within fits filled named =
      child_at-table 0 (named_pointers pointers indices) byte byte (omega arith) (simp length-map (omega arith))
      ∙ at_place pointers indices byte within ∙ ap (named_pointer pointers) filled ∙ slice_get-get_or pointers index d named

  pub child_at-unnamed : (pointers : List H) (indices : List (Option ℕ)) (byte : ℕ) → byte < length indices → length indices ≤ 256 → get_or indices byte None ≡ None → child_at (table_children 0 (named_pointers pointers indices)) byte ≡ None
  child_at-unnamed pointers indices byte within fits empty =
      child_at-table 0 (named_pointers pointers indices) byte byte (omega arith) (simp length-map (omega arith))
      ∙ at_place pointers indices byte within ∙ ap (named_pointer pointers) empty

  -- a byte with no child has no index
  pub unnamed-absent : (pointers : List H) (indices : List (Option ℕ)) (byte : ℕ) (d : H) → IsNamedOnce indices (length pointers) → byte < length indices → length indices ≤ 256 → child_at (table_children 0 (named_pointers pointers indices)) byte ≡ None → get_or indices byte None ≡ None
  unnamed-absent pointers indices byte d once within fits absent = at_index (get_or indices byte None) refl
    where
      at_index : (x : Option ℕ) → x ≡ get_or indices byte None → get_or indices byte None ≡ None
      at_index None is = sym is
      at_index (Some index) is =
          let found = child_at-named pointers indices byte index d within fits (sym is) (named_within indices (length pointers) byte index once within (sym is)) in
          let wrong = sym found ∙ absent in
          cc

  -- tables that differ at one place
  changed_at : (f g : Option ℕ → Option H) (xs ys : List (Option ℕ)) (place : ℕ) (now : Option H) → length ys ≡ length xs → place < length xs → g (get_or ys place None) ≡ now → ((k : ℕ) → k < length xs → k ≢ place → g (get_or ys k None) ≡ f (get_or xs k None)) → map g ys ≡ set (map f xs) place now
  changed_at f g xs ys place now same within here others =
      ext_get_or None (map g ys) (set (map f xs) place now) (simp (length-map, length-set) same) (λ k below.
      let below_ys : k < length ys = simp length-map at below in
      let below_xs : k < length xs = omega arith in
      get_or-map g ys k None None below_ys ∙ elim (cases_eq k place) [
        | inl at ↦ ap (λ n. g (get_or ys n None)) at ∙ here ∙ sym (get_or-set_same (map f xs) place now None (simp length-map within)) ∙ ap (λ n. get_or (set (map f xs) place now) n None) (sym at)
        | inr differs ↦ others k below_xs differs ∙ sym (get_or-map f xs k None None below_xs) ∙ sym (get_or-set_other (map f xs) place k now None differs)
      ])

  -- a pointer written over is the child at its place
  pub named-set : (pointers : List H) (indices : List (Option ℕ)) (place index : ℕ) (child : H) → IsNamedOnce indices (length pointers) → place < length indices → get_or indices place None ≡ Some index → named_pointers (set pointers index child) indices ≡ set (named_pointers pointers indices) place (Some child)
  named-set pointers indices place index child once within filled =
      let here = ap (named_pointer (set pointers index child)) filled ∙ slice_get-set_same pointers index child (named_within indices (length pointers) place index once within filled) in
      changed_at (named_pointer pointers) (named_pointer (set pointers index child)) indices indices place (Some child) refl within here (λ k below differs. others k below differs (get_or indices k None) refl)
    where
      others : (k : ℕ) → k < length indices → k ≢ place → (x : Option ℕ) → x ≡ get_or indices k None → named_pointer (set pointers index child) x ≡ named_pointer pointers x
      others k below differs None is = refl
      others k below differs (Some other) is = slice_get-set_other pointers index other child (λ same. named_apart indices (length pointers) place k index once within below differs filled (sym is ∙ ap Some (sym same)))

  -- a pointer put behind the others, with its index at a place
  pub named-push : (pointers : List H) (indices : List (Option ℕ)) (place : ℕ) (child : H) → AreBelow (length pointers) indices → place < length indices → named_pointers (pointers ++ child ∷ []) (set indices place (Some (length pointers))) ≡ set (named_pointers pointers indices) place (Some child)
  named-push pointers indices place child bounded within =
      let here = ap (named_pointer (pointers ++ child ∷ [])) (get_or-set_same indices place (Some (length pointers)) None within) ∙ slice_get-push_at pointers (length pointers) child refl in
      changed_at (named_pointer pointers) (named_pointer (pointers ++ child ∷ [])) indices (set indices place (Some (length pointers))) place (Some child) (simp length-set) within here (λ k below differs.
      ap (named_pointer (pointers ++ child ∷ [])) (get_or-set_other indices place k (Some (length pointers)) None differs) ∙ others k below (get_or indices k None) refl)
    where
      others : (k : ℕ) → k < length indices → (x : Option ℕ) → x ≡ get_or indices k None → named_pointer (pointers ++ child ∷ []) x ≡ named_pointer pointers x
      others k below None is = refl
      others k below (Some other) is = slice_get-push_before pointers other child (bounded k other below (sym is))

  -- a pointer removed: the last one takes its place, under the byte that it had
  pub named-moved : (pointers : List H) (indices : List (Option ℕ)) (place index last : ℕ) (d : H) → IsNamedOnce indices (length pointers) → place < length indices → last < length indices → get_or indices place None ≡ Some index → get_or indices last None ≡ Some (length pointers - 1) → named_pointers (swap_remove pointers index d) (moved_to indices place index last) ≡ set (named_pointers pointers indices) place None
  named-moved pointers indices place index last d once within last_within filled last_filled =
      let less = swap_remove pointers index d in
      let lent = set indices last (Some index) in
      let short : place < length lent = simp length-set within in
      let here = ap (named_pointer less) (get_or-set_same lent place None None short) in
      changed_at (named_pointer pointers) (named_pointer less) indices (moved_to indices place index last) place None (simp length-set) within here (λ k below differs.
      ap (named_pointer less) (get_or-set_other lent place k None None differs) ∙ others k below differs)
    where
      stays : (k : ℕ) → k < length indices → k ≢ place → k ≢ last → (x : Option ℕ) → x ≡ get_or indices k None → named_pointer (swap_remove pointers index d) x ≡ named_pointer pointers x
      stays k below differs apart None is = refl
      stays k below differs apart (Some other) is =
          let bound = named_within indices (length pointers) k other once below (sym is) in
          let first : index ≢ other = λ same. named_apart indices (length pointers) place k index once within below differs filled (sym is ∙ ap Some (sym same)) in
          let second : length pointers - 1 ≢ other = λ same. named_apart indices (length pointers) last k (length pointers - 1) once last_within below apart last_filled (sym is ∙ ap Some (sym same)) in
          slice_get-swap_remove_other pointers index other d (omega (arith, bound, second)) first

      others : (k : ℕ) → k < length indices → k ≢ place → named_pointer (swap_remove pointers index d) (get_or (set indices last (Some index)) k None) ≡ named_pointer pointers (get_or indices k None)
      others k below differs = elim (cases_eq k last) [
        | inl same ↦
            let bound = named_within indices (length pointers) place index once within filled in
            let first : length pointers - 1 ≢ index = λ e. named_apart indices (length pointers) place k index once within below differs filled (ap (λ n. get_or indices n None) same ∙ last_filled ∙ ap Some e) in
            ap (λ n. named_pointer (swap_remove pointers index d) (get_or (set indices last (Some index)) n None)) same
            ∙ ap (named_pointer (swap_remove pointers index d)) (get_or-set_same indices last (Some index) None last_within)
            ∙ slice_get-swap_remove_at pointers index d (omega (arith, bound, first))
            ∙ sym (ap (λ n. named_pointer pointers (get_or indices n None)) same ∙ ap (named_pointer pointers) last_filled)
        | inr apart ↦
            ap (named_pointer (swap_remove pointers index d)) (get_or-set_other indices last k (Some index) None apart)
            ∙ stays k below differs apart (get_or indices k None) refl
      ]

uses-cons : (index : ℕ) (place : Option ℕ) (indices : List (Option ℕ)) → uses index (place ∷ indices) ≡ counts index place + uses index indices
uses-cons index place indices = sum_by-cons (counts index) place indices

-- an index and its pointer taken out: the last pointer has that index now
pub named_once-moved : (indices : List (Option ℕ)) (n place index last : ℕ) → IsNamedOnce indices n → place < length indices → last < length indices → get_or indices place None ≡ Some index → get_or indices last None ≡ Some (n - 1) → IsNamedOnce (moved_to indices place index last) (n - 1)
named_once-moved indices n place index last once within last_within filled last_filled = λ other.
    let lent = set indices last (Some index) in
    let bound = named_within indices n place index once within filled in
    let still : get_or lent place None ≡ Some index = elim (cases_eq place last) [
      | inl same ↦ ap (λ k. get_or lent k None) same ∙ get_or-set_same indices last (Some index) None last_within
      | inr apart ↦ get_or-set_other indices last place (Some index) None apart ∙ filled
    ] in
    let first = uses-set other indices last (Some index) last_within in
    let second = uses-set other lent place None (simp length-set within) in
    let from = ap (counts other) last_filled in
    let to = ap (counts other) still in
    let all = once other in
    grind (arith, nat_tests, first, second, from, to, all, bound)

-- a place that has an index is there
filled_within : (indices : List (Option ℕ)) (place index : ℕ) → get_or indices place None ≡ Some index → place < length indices
filled_within [] place index filled = cc
filled_within (x ∷ indices) zero index filled = omega arith
filled_within (x ∷ indices) (suc place) index filled = omega (arith, filled_within indices place index filled)

-- the byte of the last pointer has the last index
pub kept-last : (indices : List (Option ℕ)) (bytes : List ℕ) → 0 < length bytes → AreKept indices bytes → get_or indices (get_or bytes (length bytes - 1) 0) None ≡ Some (length bytes - 1)
kept-last indices bytes some kept = kept (length bytes - 1) (omega arith)

-- the bytes beside the pointers are moved with them
pub kept-moved : (indices : List (Option ℕ)) (bytes : List ℕ) (place index d : ℕ) → AreKept indices bytes → place < length indices → index < length bytes → get_or indices place None ≡ Some index → AreKept (moved_to indices place index (get_or bytes (length bytes - 1) 0)) (swap_remove bytes index d)
kept-moved indices bytes place index d kept within bound filled = λ other below.
    let last = get_or bytes (length bytes - 1) 0 in
    let over = set bytes index (get_or bytes (length bytes - 1) d) in
    let last_filled = kept-last indices bytes (omega arith) kept in
    let last_within = filled_within indices last (length bytes - 1) last_filled in
    let short : other < length bytes - 1 = omega (arith, below, length-take (length bytes - 1) over, length-set {A = ℕ}) in
    let lent = set indices last (Some index) in
    let byte : get_or (swap_remove bytes index d) other 0 ≡ get_or over other 0 = get_or-take (length bytes - 1) over other 0 short in
    elim (cases_eq index other) [
      | inl same ↦
          let moved : get_or over other 0 ≡ last = ap (λ k. get_or over k 0) (sym same) ∙ get_or-set_same bytes index (get_or bytes (length bytes - 1) d) 0 bound ∙ get_or_default bytes (length bytes - 1) d 0 (omega arith) in
          let apart : last ≢ place = λ e.
          let ends : Some (length bytes - 1) ≡ Some index = sym last_filled ∙ ap (λ k. get_or indices k None) e ∙ filled in
          let is : length bytes - 1 ≡ index = ap (λ o. option_or o 0) ends in
          omega arith in
          ap (λ k. get_or (set lent place None) k None) (byte ∙ moved)
          ∙ get_or-set_other lent place last None None apart
          ∙ get_or-set_same indices last (Some index) None last_within
          ∙ ap Some same
      | inr differs ↦
          let b = get_or bytes other 0 in
          let stays : get_or over other 0 ≡ b = get_or-set_other bytes index other (get_or bytes (length bytes - 1) d) 0 (λ e. differs (sym e)) in
          let had : get_or indices b None ≡ Some other = kept other (omega arith) in
          let apart : b ≢ place = λ e. differs (ap (λ o. option_or o 0) (sym filled ∙ ap (λ k. get_or indices k None) (sym e) ∙ had)) in
          let before : b ≢ last = λ e.
          let is : length bytes - 1 ≡ other = ap (λ o. option_or o 0) (sym last_filled ∙ ap (λ k. get_or indices k None) (sym e) ∙ had) in
          omega arith in
          ap (λ k. get_or (set lent place None) k None) (byte ∙ stays)
          ∙ get_or-set_other lent place b None None apart
          ∙ get_or-set_other indices last b (Some index) None before
          ∙ had
    ]

-- and a byte put behind the others has the next index
pub kept-push : (indices : List (Option ℕ)) (bytes : List ℕ) (place : ℕ) → AreKept indices bytes → place < length indices → get_or indices place None ≡ None → AreKept (set indices place (Some (length bytes))) (bytes ++ place ∷ [])
kept-push indices bytes place kept within empty = λ other below. elim (cases_lt other (length bytes)) [
  | inl before ↦
      let b = get_or bytes other 0 in
      let had : get_or indices b None ≡ Some other = kept other before in
      let apart : b ≢ place = λ e. let wrong : Some other ≡ None = sym had ∙ ap (λ k. get_or indices k None) e ∙ empty in absurd (cc) in
      ap (λ k. get_or (set indices place (Some (length bytes))) k None) (get_or_append_left bytes (place ∷ []) 0 other before)
      ∙ get_or-set_other indices place b (Some (length bytes)) None apart ∙ had
  | inr from ↦
      let at : length bytes ≡ other = omega (arith, below, length-append bytes (place ∷ [])) in
      ap (λ k. get_or (set indices place (Some (length bytes))) (get_or (bytes ++ place ∷ []) k 0) None) (sym at)
      ∙ ap (λ k. get_or (set indices place (Some (length bytes))) k None) (get_or-append_seam bytes place [] 0)
      ∙ get_or-set_same indices place (Some (length bytes)) None within ∙ ap Some at
]

-- the indices in use, by their bytes
abbrev used : ℕ → List (Option ℕ) → List ℕ
used first indices = map (λ p. p.1) (table_children first indices)

pub times-used : (first q : ℕ) (indices : List (Option ℕ)) → times q (used first indices) ≡ uses q indices
times-used first q [] = refl
times-used first q (None ∷ indices) = omega (arith, times-used (suc first) q indices, uses-cons q None indices)
times-used first q (Some index ∷ indices) = times-cons q index (used (suc first) indices) ∙ ap (λ n. cond (eqb index q) 1 0 + n) (times-used (suc first) q indices) ∙ sym (uses-cons q (Some index) indices)

used_permutation : (indices : List (Option ℕ)) (n : ℕ) → IsNamedOnce indices n → IsPermutation (used 0 indices) (range_with_len 0 n)
used_permutation indices n once = permutation_from_times (used 0 indices) (range_with_len 0 n) (λ q. let named = once q in let ranged = times-range 0 n q in times-used 0 q indices ∙ grind (arith, nat_tests, named, ranged))

module _ {H : Type 0} where
  -- the children are the pointers that the indices in use name
  pub table-named : (d : H) (pointers : List H) (first : ℕ) (indices : List (Option ℕ)) → AreBelow (length pointers) indices → table_children first (named_pointers pointers indices) ≡ map (λ p. (p.0, get_or pointers p.1 d)) (table_children first indices)
  table-named d pointers first [] bounded = refl
  table-named d pointers first (None ∷ indices) bounded = table-named d pointers (suc first) indices (λ place index within filled. bounded (suc place) index (omega arith) filled)
  table-named d pointers first (Some index ∷ indices) bounded =
      let named = slice_get-get_or pointers index d (bounded 0 index (omega arith) refl) in
      let rest = table-named d pointers (suc first) indices (λ place other within filled. bounded (suc place) other (omega arith) filled) in
      ap (λ x. table_children first (x ∷ named_pointers pointers indices)) named ∙ ap (λ children. (first, get_or pointers index d) ∷ children) rest

  -- with no pointers there are no children
  pub table-unnamed : (first : ℕ) (indices : List (Option ℕ)) → table_children {H = H} first (named_pointers [] indices) ≡ []
  table-unnamed first [] = refl
  table-unnamed first (None ∷ indices) = table-unnamed (suc first) indices
  table-unnamed first (Some index ∷ indices) = table-unnamed (suc first) indices

  seconds : (d : H) (pointers : List H) (pairs : ChildMap ℕ) → map (λ (p : ℕ × H). p.1) (map (λ (p : ℕ × ℕ). (p.0, get_or pointers p.1 d)) pairs) ≡ map (λ index. get_or pointers index d) (map (λ (p : ℕ × ℕ). p.1) pairs)
  seconds d pointers [] = refl
  seconds d pointers (pair ∷ pairs) = ap (λ rest. get_or pointers pair.1 d ∷ rest) (seconds d pointers pairs)

  -- the children are the pointers in another order
  pub named_permutation : (pointers : List H) (indices : List (Option ℕ)) → IsNamedOnce indices (length pointers) → IsPermutation (map (λ p. p.1) (table_children 0 (named_pointers pointers indices))) pointers
  named_permutation [] indices once = rw (table-unnamed 0 indices) (IsPermutation-refl [])
  named_permutation (d ∷ pointers) indices once =
      let all = d ∷ pointers in
      let bounded = below_from_once indices (length all) once in
      let children = ap (map (λ (p : ℕ × H). p.1)) (table-named d all 0 indices bounded) ∙ seconds d all (table_children 0 indices) in
      let whole = fill_by_all (λ index. get_or all index d) all (length all) d refl (λ k within. refl) in
      rw children (subst (IsPermutation (map (λ index. get_or all index d) (used 0 indices))) (sym whole) (IsPermutation-map (λ index. get_or all index d) (used 0 indices) (range_with_len 0 (length all)) (used_permutation indices (length all) once)))

  -- there are as many children as pointers
  pub length-named : (pointers : List H) (indices : List (Option ℕ)) → IsNamedOnce indices (length pointers) → length (table_children 0 (named_pointers pointers indices)) ≡ length pointers
  length-named pointers indices once = sym (length_permutation _ _ (named_permutation pointers indices once) ∙ length-map (table_children 0 (named_pointers pointers indices)) (λ (p : ℕ × H). p.1))

module _ {H : Type 0} (pointers : List H) (first : ℕ) (indices : List (Option ℕ)) (bounded : AreBelow (length pointers) indices) where
  -- no index in use, no child
  pub none-named : table_children first indices ≡ [] → table_children first (named_pointers pointers indices) ≡ []
  none-named none = go pointers bounded
    where
      go : (others : List H) → AreBelow (length others) indices → table_children first (named_pointers others indices) ≡ []
      go [] below = table-unnamed first indices
      go (d ∷ others) below = table-named d (d ∷ others) first indices below ∙ ap (map (λ p. (p.0, get_or (d ∷ others) p.1 d))) none

  -- the first index in use names the first child
  pub next-named : (byte index next : ℕ) (child : H) (later : List (Option ℕ)) → AreBelow (length pointers) later → table_children first indices ≡ (byte, index) ∷ table_children next later → slice_get pointers index ≡ Some child → table_children first (named_pointers pointers indices) ≡ (byte, child) ∷ table_children next (named_pointers pointers later)
  next-named byte index next child later below found names =
      table-named child pointers first indices bounded
      ∙ ap (map (λ p. (p.0, get_or pointers p.1 child))) found
      ∙ ap (λ x. (byte, x) ∷ map (λ p. (p.0, get_or pointers p.1 child)) (table_children next later)) (get_or_from_slice_get pointers index child child names)
      ∙ ap (λ rest. (byte, child) ∷ rest) (sym (table-named child pointers next later below))

  -- and the last the last
  pub next_back-named : (byte index : ℕ) (child : H) (earlier : List (Option ℕ)) → AreBelow (length pointers) earlier → table_children first indices ≡ table_children first earlier ++ (byte, index) ∷ [] → slice_get pointers index ≡ Some child → table_children first (named_pointers pointers indices) ≡ table_children first (named_pointers pointers earlier) ++ (byte, child) ∷ []
  next_back-named byte index child earlier below found names =
      let pair : ℕ × ℕ → ℕ × H = λ p. (p.0, get_or pointers p.1 child) in
      table-named child pointers first indices bounded
      ∙ ap (map pair) found ∙ map-append pair (table_children first earlier) ((byte, index) ∷ [])
      ∙ ap (λ x. map pair (table_children first earlier) ++ (byte, x) ∷ []) (get_or_from_slice_get pointers index child child names)
      ∙ ap (λ rest. rest ++ (byte, child) ∷ []) (sym (table-named child pointers first earlier below))

-- a part of the indices is below where the whole is
pub below-drop : (n k : ℕ) (indices : List (Option ℕ)) → AreBelow n indices → AreBelow n (drop k indices)
below-drop n k indices bounded = λ place index within filled.
    bounded (k + place) index (let short = length-drop k indices in omega (arith, short)) (sym (get_or-drop k indices place None) ∙ filled)

pub below-take : (n k : ℕ) (indices : List (Option ℕ)) → AreBelow n indices → AreBelow n (take k indices)
below-take n k indices bounded = λ place index within filled.
    let short = length-take k indices in
    let front : place < k = omega (arith, short) in
    bounded place index (omega (arith, short)) (sym (get_or-take k indices place None front) ∙ filled)

abbrev second_or : Option (ℕ × ℕ) → ℕ → ℕ
second_or None d = d
second_or (Some pair) d = pair.1

-- an index in use is below n
pub used_below : (n first : ℕ) (indices : List (Option ℕ)) (k byte index : ℕ) → AreBelow n indices → slice_get (table_children first indices) k ≡ Some (byte, index) → index < n
used_below n first [] k byte index bounded found = cc
used_below n first (None ∷ indices) k byte index bounded found = used_below n (suc first) indices k byte index (λ place other within filled. bounded (suc place) other (omega arith) filled) found
used_below n first (Some other ∷ indices) zero byte index bounded found =
    let same : other ≡ index = ap (λ o. second_or o 0) found in
    omega (arith, bounded 0 other (omega arith) refl)
used_below n first (Some other ∷ indices) (suc k) byte index bounded found = used_below n (suc first) indices k byte index (λ place other within filled. bounded (suc place) other (omega arith) filled) found

module _ {H : Type 0} (pointers : List H) (indices : List (Option ℕ)) (byte : ℕ) (places : length indices ≡ 256) (within : byte < length indices) where
  named_fits : 0 + length (named_pointers pointers indices) ≤ 256
  named_fits = simp length-map (omega arith)

  named_within_table : byte < length (named_pointers pointers indices)
  named_within_table = simp length-map within

  -- a pointer written over is written under the byte
  pub with_child-named : (index : ℕ) (child : H) → IsNamedOnce indices (length pointers) → get_or indices byte None ≡ Some index → with_child (table_children 0 (named_pointers pointers indices)) byte child ≡ table_children 0 (named_pointers (set pointers index child) indices)
  with_child-named index child once filled =
      with_child-table 0 (named_pointers pointers indices) byte byte child (omega arith) named_within_table named_fits
      ∙ ap (table_children 0) (sym (named-set pointers indices byte index child once within filled))

  -- a pointer put behind the others, with its index, is written under the byte
  pub with_child-pushed : (child : H) → IsNamedOnce indices (length pointers) → with_child (table_children 0 (named_pointers pointers indices)) byte child ≡ table_children 0 (named_pointers (pointers ++ child ∷ []) (set indices byte (Some (length pointers))))
  with_child-pushed child once =
      with_child-table 0 (named_pointers pointers indices) byte byte child (omega arith) named_within_table named_fits
      ∙ ap (table_children 0) (sym (named-push pointers indices byte child (below_from_once indices (length pointers) once) within))

  -- a pointer taken out with its index takes out the byte
  pub without_child-moved : (index last : ℕ) (d : H) → IsNamedOnce indices (length pointers) → last < length indices → get_or indices byte None ≡ Some index → get_or indices last None ≡ Some (length pointers - 1) → without_child (table_children 0 (named_pointers pointers indices)) byte ≡ table_children 0 (named_pointers (swap_remove pointers index d) (moved_to indices byte index last))
  without_child-moved index last d once last_within filled last_filled =
      without_child-table 0 (named_pointers pointers indices) byte byte (omega arith) named_fits
      ∙ ap (table_children 0) (sym (named-moved pointers indices byte index last d once within last_within filled last_filled))

  -- a byte with no index is not there
  pub without_child-unnamed : get_or indices byte None ≡ None → without_child (table_children 0 (named_pointers pointers indices)) byte ≡ table_children 0 (named_pointers pointers indices)
  without_child-unnamed empty =
      let nothing = at_place pointers indices byte within ∙ ap (named_pointer pointers) empty in
      without_child-table 0 (named_pointers pointers indices) byte byte (omega arith) named_fits
      ∙ ap (λ x. table_children 0 (set (named_pointers pointers indices) byte x)) (sym nothing) ∙ ap (table_children 0) (set-get_or (named_pointers pointers indices) byte None)

-- the header counts the pointers
pub pointers_counted : {H : Type 0} {prefix_room room : ℕ} {header : Header} {indices : List (Option ℕ)} {bytes : List ℕ} {pointers : List H} → IsIndirectNode prefix_room room header indices bytes pointers → header.count ≡ length pointers
pointers_counted {indices = indices} {pointers = pointers} indirect = indirect.counted ∙ length-named pointers indices indirect.named_once

-- fields that name each pointer once, and whose children are sound
pub indirect_fields : {H : Type 0} (prefix_room room : ℕ) (header : Header) (indices : List (Option ℕ)) (bytes : List ℕ) (pointers : List H) → length indices ≡ 256 → header.count ≡ length pointers → length pointers ≤ room → IsNamedOnce indices (length pointers) → length bytes ≡ length pointers → AreKept indices bytes → IsInner prefix_room room (inner_with header (table_children 0 (named_pointers pointers indices))) → IsIndirectNode prefix_room room header indices bytes pointers
indirect_fields prefix_room room header indices bytes pointers places counted fits once beside kept sound = record {
  places = places;
  counted = counted ∙ sym (length-named pointers indices once);
  fits = fits;
  named_once = once;
  beside = beside;
  kept = kept;
  sound = sound;
}

-- a pointer taken out, and the last one moved into its place
module _ {H : Type 0} {prefix_room room : ℕ} {header : Header} {indices : List (Option ℕ)} {bytes : List ℕ} {pointers : List H} (node : IsIndirectNode prefix_room room header indices bytes pointers) (byte index : ℕ) (e : H) (within : byte < length indices) (filled : get_or indices byte None ≡ Some index) where
  abbrev last_byte : ℕ
  last_byte = get_or bytes (length bytes - 1) 0

  taken_within : index < length pointers
  taken_within = named_within indices (length pointers) byte index node.named_once within filled

  last_index : get_or indices last_byte None ≡ Some (length bytes - 1)
  last_index = kept-last indices bytes (omega (arith, taken_within, node.beside)) node.kept

  last_filled : get_or indices last_byte None ≡ Some (length pointers - 1)
  last_filled = last_index ∙ ap (λ n. Some (n - 1)) node.beside

  last_within : last_byte < length indices
  last_within = filled_within indices last_byte (length bytes - 1) last_index

  -- takes out the byte
  pub without_child-last : without_child (table_children 0 (named_pointers pointers indices)) byte ≡ table_children 0 (named_pointers (swap_remove pointers index e) (moved_to indices byte index last_byte))
  without_child-last = without_child-moved pointers indices byte node.places within index last_byte e node.named_once last_within filled last_filled

  -- and leaves fields of a node
  pub indirect_removed : (d : ℕ) → IsIndirectNode prefix_room room (record header { count = header.count - 1 }) (moved_to indices byte index last_byte) (swap_remove bytes index d) (swap_remove pointers index e)
  indirect_removed d =
      let fewer : length (swap_remove pointers index e) ≡ length pointers - 1 = length-swap_remove pointers index e in
      indirect_fields prefix_room room (record header { count = header.count - 1 }) _ _ _
      (simp length-set node.places)
      (omega (arith, pointers_counted node, fewer))
      (omega (arith, node.fits, fewer))
      (subst (IsNamedOnce (moved_to indices byte index last_byte)) (sym fewer) (named_once-moved indices (length pointers) byte index last_byte node.named_once within last_within filled last_filled))
      (omega (arith, node.beside, fewer, length-swap_remove bytes index d))
      (kept-moved indices bytes byte index d node.kept within (omega (arith, taken_within, node.beside)) filled)
      (subst (λ cs. IsInner prefix_room room (inner_with header cs)) without_child-last (sound_removed prefix_room room (inner_with header (table_children 0 (named_pointers pointers indices))) byte node.sound))

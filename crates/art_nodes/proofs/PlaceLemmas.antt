-- Tables of indices: ascending bytes whose places are their indices.
use Rattle.std.proofs.Common.{◌≡◌, ℕ, zero, suc, ◌+◌, ◌<◌, List, [], ◌∷◌, ◌++◌, length, take, get_or, set, map, Option, Some, refl, sym, ◌∙◌, ap, subst, arith}
use Rattle.std.specs.List.{range_with_len, zip}
use Rattle.std.proofs.lemmas.Bool.Decides.{nat_tests}
use Rattle.std.proofs.lemmas.List.{length-take}
use Rattle.std.proofs.lemmas.List.FromFn.{fill_by_all, length-range_with_len, get_or-range_with_len}
use Rattle.std.proofs.lemmas.Option.{slice_get-get_or}
use Rattle.art_header.specs.Header.{Header}
use Rattle.art_nodes.specs.ChildMap.{ChildMap, IsAscending, IsAscendingFrom, child_at, table_children, with_child}
use Rattle.art_nodes.specs.IndirectNode.{named_pointers, AreKept, IsIndirectNode}
use Rattle.art_nodes.specs.Inner.{IsInner, inner_with}
use Rattle.art_nodes.proofs.ChildMapLemmas.{IsAbove}
use Rattle.art_nodes.proofs.ConversionLemmas.{with_child-behind}
use Rattle.art_nodes.proofs.IndirectLemmas.{IsNamedOnce, below_from_once, indirect_fields, table-named, table-unnamed, times-used}
use Rattle.art_nodes.proofs.ListLemmas.{times, times-range}
use Rattle.art_nodes.proofs.SortedLemmas.{above-zip, child_at-zip, key_bytes-zip, length-zip, seconds-zip}
use Rattle.art_nodes.proofs.TableLemmas.{child_at-table, with_child-table}

ascending-fits : (low : ℕ) (bytes : List ℕ) → IsAscendingFrom low bytes → (k : ℕ) → k < length bytes → get_or bytes k 0 < 256
ascending-fits low [] asc k below = absurd (omega arith)
ascending-fits low (b ∷ bytes) asc zero below = asc.1
ascending-fits low (b ∷ bytes) asc (suc k) below = ascending-fits (suc b) bytes asc.2 k (omega arith)

ascending-take : (n low : ℕ) (bytes : List ℕ) → IsAscendingFrom low bytes → IsAscendingFrom low (take n bytes)
ascending-take zero low bytes asc = tt
ascending-take (suc n) low [] asc = tt
ascending-take (suc n) low (b ∷ bytes) asc = (asc.0, asc.1, ascending-take n (suc b) bytes asc.2)

-- one byte more, with its place
zip-more : (first : ℕ) (bytes : List ℕ) (place : ℕ) → place < length bytes → zip (take place bytes) (range_with_len first place) ++ (get_or bytes place 0, first + place) ∷ [] ≡ zip (take (suc place) bytes) (range_with_len first (suc place))
zip-more first [] place within = absurd (omega arith)
zip-more first (b ∷ bytes) zero within = ap (λ n. (b, n) ∷ []) (omega arith)
zip-more first (b ∷ bytes) (suc place) within =
    ap (λ n. (b, first) ∷ zip (take place bytes) (range_with_len (first + 1) place) ++ (get_or bytes place 0, n) ∷ []) (omega arith)
    ∙ ap (λ rest. (b, first) ∷ rest) (zip-more (first + 1) bytes place (omega arith))

pub places_more : (table : List (Option ℕ)) (bytes : List ℕ) (place : ℕ) → length table ≡ 256 → IsAscending bytes → place < length bytes → table_children 0 table ≡ zip (take place bytes) (range_with_len 0 place) → table_children 0 (set table (get_or bytes place 0) (Some place)) ≡ zip (take (place + 1) bytes) (range_with_len 0 (place + 1))
places_more table bytes place all asc within is =
    let byte = get_or bytes place 0 in
    let fits : byte < 256 = ascending-fits 0 bytes asc place within in
    let front = zip (take place bytes) (range_with_len 0 place) in
    let next : suc place ≡ place + 1 = omega arith in
    let longer : front ++ (byte, place) ∷ [] ≡ zip (take (place + 1) bytes) (range_with_len 0 (place + 1)) =
    ap (λ n. front ++ (byte, n) ∷ []) (omega arith) ∙ zip-more 0 bytes place within ∙ ap (λ n. zip (take n bytes) (range_with_len 0 n)) next in
    let same : length (range_with_len 0 (place + 1)) ≡ length (take (place + 1) bytes) = omega (arith, length-range_with_len 0 (place + 1), length-take (place + 1) bytes) in
    let above : IsAbove 0 (front ++ (byte, place) ∷ []) = subst (IsAbove 0) (sym longer) (above-zip 0 (take (place + 1) bytes) (range_with_len 0 (place + 1)) same (ascending-take (place + 1) 0 bytes asc)) in
    sym (with_child-table 0 table byte byte place (omega arith) (omega (arith, fits, all)) (omega (arith, all)))
    ∙ ap (λ children. with_child children byte place) is
    ∙ with_child-behind 0 front byte place [] above
    ∙ longer

zip-map : {A B : Type 0} (f : A → B) (bytes : List ℕ) (xs : List A) → map (λ (p : ℕ × A). (p.0, f p.1)) (zip bytes xs) ≡ zip bytes (map f xs)
zip-map f [] xs = refl
zip-map f (b ∷ bytes) [] = refl
zip-map f (b ∷ bytes) (x ∷ xs) = ap (λ rest. (b, f x) ∷ rest) (zip-map f bytes xs)

zip-none : {H : Type 0} (bytes : List ℕ) → zip {X = H} bytes [] ≡ []
zip-none [] = refl
zip-none (b ∷ bytes) = refl

module _ (indices : List (Option ℕ)) (bytes : List ℕ) (all : length indices ≡ 256) (asc : IsAscending bytes) (is : table_children 0 indices ≡ zip bytes (range_with_len 0 (length bytes))) where
  same_length : length (range_with_len 0 (length bytes)) ≡ length bytes
  same_length = length-range_with_len 0 (length bytes)

  -- each place is the index of one byte
  pub places_named_once : IsNamedOnce indices (length bytes)
  places_named_once = λ q.
      let used = ap (λ pairs. times q (map (λ p. p.1) pairs)) is ∙ ap (times q) (seconds-zip bytes (range_with_len 0 (length bytes)) same_length) in
      let ranged = times-range 0 (length bytes) q in
      sym (times-used 0 q indices) ∙ used ∙ grind (arith, nat_tests, ranged)

  pub places_kept : AreKept indices bytes
  places_kept = λ index below.
      let byte = get_or bytes index 0 in
      let fits : byte < 256 = ascending-fits 0 bytes asc index below in
      let range = range_with_len 0 (length bytes) in
      sym (child_at-table 0 indices byte byte (omega arith) (omega (arith, all)))
      ∙ ap (λ children. child_at children byte) is
      ∙ child_at-zip 0 bytes range byte index same_length asc (record { in_range = below; same = refl })
      ∙ slice_get-get_or range index 0 (omega (arith, same_length, below))
      ∙ ap Some (get_or-range_with_len 0 (length bytes) index 0 below ∙ omega arith)

  -- and so the children are the bytes with the pointers beside them
  pub places_children : {H : Type 0} (pointers : List H) → length pointers ≡ length bytes → table_children 0 (named_pointers pointers indices) ≡ zip bytes pointers
  places_children pointers beside = go pointers beside
    where
      go : {H : Type 0} (pointers : List H) → length pointers ≡ length bytes → table_children 0 (named_pointers pointers indices) ≡ zip bytes pointers
      go [] beside = table-unnamed 0 indices ∙ sym (zip-none bytes)
      go (d ∷ pointers) beside =
          let whole = d ∷ pointers in
          let once = subst (IsNamedOnce indices) (sym beside) places_named_once in
          table-named d whole 0 indices (below_from_once indices (length whole) once)
          ∙ ap (map (λ p. (p.0, get_or whole p.1 d))) is
          ∙ zip-map (λ index. get_or whole index d) bytes (range_with_len 0 (length bytes))
          ∙ ap (zip bytes) (sym (fill_by_all (λ index. get_or whole index d) whole (length bytes) d beside (λ k within. refl)))

-- the fields of an indirect node that is made of ascending bytes and their children
pub indirect_from_places : {H : Type 0} (prefix_room room : ℕ) (header : Header) (indices : List (Option ℕ)) (bytes : List ℕ) (pointers : List H) → length indices ≡ 256 → table_children 0 indices ≡ zip bytes (range_with_len 0 (length bytes)) → length pointers ≡ length bytes → header.count ≡ length bytes → IsInner prefix_room room (inner_with header (zip bytes pointers)) → IsIndirectNode prefix_room room header indices bytes pointers
indirect_from_places prefix_room room header indices bytes pointers all is beside counted sound =
    let asc = subst IsAscending (key_bytes-zip bytes pointers beside) sound.ascending in
    let children = places_children indices bytes all asc is pointers beside in
    indirect_fields prefix_room room header indices bytes pointers all
    (omega (arith, counted, beside))
    (omega (arith, sound.fits, length-zip bytes pointers beside, beside))
    (subst (IsNamedOnce indices) (sym beside) (places_named_once indices bytes all asc is))
    (sym beside)
    (places_kept indices bytes all asc is)
    (subst (λ cs. IsInner prefix_room room (inner_with header cs)) (sym children) sound)

-- bytes and children apart are the pairs
pub zip-parts : {H : Type 0} (pairs : ChildMap H) → zip (map (λ p. p.0) pairs) (map (λ p. p.1) pairs) ≡ pairs
zip-parts [] = refl
zip-parts (pair ∷ pairs) = ap (λ rest. pair ∷ rest) (zip-parts pairs)

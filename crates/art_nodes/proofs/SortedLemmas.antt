-- Sorted nodes: the child map after an edit at one place.
use Rattle.std.proofs.Common.{◌≡◌, ℕ, zero, suc, ◌+◌, ◌-◌, ◌<◌, ◌≤◌, ◌≢◌, List, [], ◌∷◌, length, get_or, set, map, Some, None, slice_get, refl, sym, ◌∙◌, ap, subst, arith}
use Rattle.std.specs.List.{insert, refill, remove, zip}
use Rattle.std.proofs.lemmas.List.{length-set}
use Rattle.std.proofs.lemmas.List.Edits.{length-insert, length-remove}
use Rattle.std.proofs.lemmas.Grind.{common_steps}
use Rattle.art_nodes.specs.ChildMap.{IsAscendingFrom, IsAscending, child_at, key_bytes, with_child, without_child}
use Rattle.art_header.specs.Header.{Header}
use Rattle.art_nodes.specs.Inner.{Inner, HasRoomFor, IsInner, inner_with}
use Rattle.art_nodes.specs.SortedNode.{IsSortedNode}
use Rattle.art_nodes.specs.WritePoint.{IsByteAt, IsGapFor}
use Rattle.art_nodes.proofs.ChildMapLaws.{sound_written, sound_removed}
use Rattle.art_nodes.proofs.ChildMapLemmas.{IsAbove, ascending-low, ascending-rises, ascending-length, with_child-front, with_child-same, with_child-later, child_at-front, child_at-same, child_at-later, without_child-front, without_child-same, without_child-later}

-- behind smaller bytes, a place whose byte is greater is the gap
pub gap_at : (bytes : List ℕ) (byte place : ℕ) → IsAscending bytes → place < length bytes → byte < get_or bytes place 0 → ((k : ℕ) → k < place → get_or bytes k 0 < byte) → IsGapFor bytes byte place
gap_at bytes byte place asc within greater smaller = record {
  in_range = omega arith;
  smaller_before = smaller;
  greater_after = λ k le lt. grind (arith, ascending-rises 0 bytes asc place k, λ (same : place ≡ k). ap (λ n. get_or bytes n 0) same);
}

-- a gap further on is a gap of the rest
gap_rest : (b : ℕ) (bytes : List ℕ) (byte place : ℕ) → IsGapFor (b ∷ bytes) byte (suc place) → IsGapFor bytes byte place
gap_rest b bytes byte place gap = record {
  in_range = omega (arith, gap.in_range);
  smaller_before = λ k lt. gap.smaller_before (suc k) (omega arith);
  greater_after = λ k le lt. gap.greater_after (suc k) (omega arith) (omega arith);
}

-- the gap at the start is below the first byte
gap_front : (low b : ℕ) (bytes : List ℕ) (byte : ℕ) → IsGapFor (b ∷ bytes) byte zero → byte < b
gap_front low b bytes byte gap = gap.greater_after 0 (omega arith) (omega arith)

module _ {H : Type 0} where
  pub key_bytes-zip : (bytes : List ℕ) (children : List H) → length children ≡ length bytes → key_bytes (zip bytes children) ≡ bytes
  key_bytes-zip [] children same = refl
  key_bytes-zip (b ∷ bytes) [] same = absurd (omega arith)
  key_bytes-zip (b ∷ bytes) (x ∷ children) same = ap (λ rest. b ∷ rest) (key_bytes-zip bytes children (omega arith))

  pub seconds-zip : (bytes : List ℕ) (children : List H) → length children ≡ length bytes → map (λ p. p.1) (zip bytes children) ≡ children
  seconds-zip [] [] same = refl
  seconds-zip [] (x ∷ children) same = absurd (omega arith)
  seconds-zip (b ∷ bytes) [] same = absurd (omega arith)
  seconds-zip (b ∷ bytes) (x ∷ children) same = ap (λ rest. x ∷ rest) (seconds-zip bytes children (omega arith))

  pub length-zip : (bytes : List ℕ) (children : List H) → length children ≡ length bytes → length (zip bytes children) ≡ length bytes
  length-zip [] children same = refl
  length-zip (b ∷ bytes) [] same = absurd (omega arith)
  length-zip (b ∷ bytes) (x ∷ children) same = let rest = length-zip bytes children (omega arith) in omega (arith, rest)

  -- where there are children, there are bytes
  pub some_bytes : (bytes : List ℕ) (children : List H) (header : Header) (node : Inner H) → length children ≡ length bytes → inner_with header (zip bytes children) ≡ node → 0 < length node.children → 0 < length bytes
  some_bytes bytes children header node beside is some = omega (arith, length-zip bytes children beside, ap (λ n. length n.children) is, some)

  pub above-zip : (low : ℕ) (bytes : List ℕ) (children : List H) → length children ≡ length bytes → IsAscendingFrom low bytes → IsAbove low (zip bytes children)
  above-zip low bytes children same asc = rw (key_bytes-zip bytes children same) asc

  -- the child at a place is the child under the byte there
  pub child_at-zip : (low : ℕ) (bytes : List ℕ) (children : List H) (byte place : ℕ) → length children ≡ length bytes → IsAscendingFrom low bytes → IsByteAt bytes byte place → child_at (zip bytes children) byte ≡ slice_get children place
  child_at-zip low [] children byte place same asc at = absurd (omega (arith, at.in_range))
  child_at-zip low (b ∷ bytes) [] byte place same asc at = absurd (omega arith)
  child_at-zip low (b ∷ bytes) (x ∷ children) byte zero same asc at = child_at-same b byte x (zip bytes children) at.same
  child_at-zip low (b ∷ bytes) (x ∷ children) byte (suc place) same asc at =
      let at_rest : IsByteAt bytes byte place = record { in_range = omega (arith, at.in_range); same = at.same } in
      let greater : b < byte = omega (arith, ascending-low (suc b) bytes asc.2 place at_rest.in_range, at.same) in
      rw (child_at-later b byte x (zip bytes children) (λ e. omega arith)) (child_at-zip (suc b) bytes children byte place (omega arith) asc.2 at_rest)

  -- and a byte at no place has none
  pub child_at-zip_absent : (bytes : List ℕ) (children : List H) (byte : ℕ) → length children ≡ length bytes → ((k : ℕ) → k < length bytes → get_or bytes k 0 ≢ byte) → child_at (zip bytes children) byte ≡ None
  child_at-zip_absent [] children byte same absent = refl
  child_at-zip_absent (b ∷ bytes) [] byte same absent = absurd (omega arith)
  child_at-zip_absent (b ∷ bytes) (x ∷ children) byte same absent =
      child_at-later b byte x (zip bytes children) (absent 0 (omega arith))
      ∙ child_at-zip_absent bytes children byte (omega arith) (λ k below. absent (suc k) (omega arith))

  -- writing over the child at a place writes the child under the byte there
  pub with_child-zip_set : (low : ℕ) (bytes : List ℕ) (children : List H) (byte place : ℕ) (child : H) → length children ≡ length bytes → IsAscendingFrom low bytes → IsByteAt bytes byte place → with_child (zip bytes children) byte child ≡ zip bytes (set children place child)
  with_child-zip_set low [] children byte place child same asc at = absurd (omega (arith, at.in_range))
  with_child-zip_set low (b ∷ bytes) [] byte place child same asc at = absurd (omega arith)
  with_child-zip_set low (b ∷ bytes) (x ∷ children) byte zero child same asc at = with_child-same b byte x (zip bytes children) child at.same (above-zip (suc b) bytes children (omega arith) asc.2) ∙ ap (λ c. (c, child) ∷ zip bytes children) (sym at.same)
  with_child-zip_set low (b ∷ bytes) (x ∷ children) byte (suc place) child same asc at =
      let at_rest : IsByteAt bytes byte place = record { in_range = omega (arith, at.in_range); same = at.same } in
      let greater : b < byte = omega (arith, ascending-low (suc b) bytes asc.2 place at_rest.in_range, at.same) in
      rw (with_child-later b byte x (zip bytes children) child greater) (ap (λ rest. (b, x) ∷ rest) (with_child-zip_set (suc b) bytes children byte place child (omega arith) asc.2 at_rest))

  -- taking out a place takes out the byte there
  pub without_child-zip_remove : (low : ℕ) (bytes : List ℕ) (children : List H) (byte place : ℕ) → length children ≡ length bytes → IsAscendingFrom low bytes → IsByteAt bytes byte place → without_child (zip bytes children) byte ≡ zip (remove bytes place) (remove children place)
  without_child-zip_remove low [] children byte place same asc at = absurd (omega (arith, at.in_range))
  without_child-zip_remove low (b ∷ bytes) [] byte place same asc at = absurd (omega arith)
  without_child-zip_remove low (b ∷ bytes) (x ∷ children) byte zero same asc at = without_child-same b byte x (zip bytes children) at.same (above-zip (suc b) bytes children (omega arith) asc.2)
  without_child-zip_remove low (b ∷ bytes) (x ∷ children) byte (suc place) same asc at =
      let at_rest : IsByteAt bytes byte place = record { in_range = omega (arith, at.in_range); same = at.same } in
      let greater : b < byte = omega (arith, ascending-low (suc b) bytes asc.2 place at_rest.in_range, at.same) in
      rw (without_child-later b byte x (zip bytes children) (λ e. omega arith)) (ap (λ rest. (b, x) ∷ rest) (without_child-zip_remove (suc b) bytes children byte place (omega arith) asc.2 at_rest))

  -- the pair at a place has the byte and the child there
  pub slice_get-zip : (bytes : List ℕ) (children : List H) (place byte : ℕ) (child : H) → length children ≡ length bytes → place < length bytes → slice_get (zip bytes children) place ≡ Some (get_or bytes place byte, get_or children place child)
  slice_get-zip [] children place byte child same below = absurd (omega arith)
  slice_get-zip (b ∷ bytes) [] place byte child same below = absurd (omega arith)
  slice_get-zip (b ∷ bytes) (x ∷ children) zero byte child same below = refl
  slice_get-zip (b ∷ bytes) (x ∷ children) (suc place) byte child same below = slice_get-zip bytes children place byte child (omega arith) (omega arith)

  -- a slice with one element changed, put back where it came from
  pub refill-set : (children : List H) (place : ℕ) (child : H) → refill (length children) children (set children place child) ≡ set children place child
  refill-set children place child = grind (arith, common_steps)

  -- a byte that has a gap is not there
  pub child_at-zip_gap : (low : ℕ) (bytes : List ℕ) (children : List H) (byte place : ℕ) → length children ≡ length bytes → IsAscendingFrom low bytes → IsGapFor bytes byte place → child_at (zip bytes children) byte ≡ None
  child_at-zip_gap low [] children byte place same asc gap = refl
  child_at-zip_gap low (b ∷ bytes) [] byte place same asc gap = absurd (omega arith)
  child_at-zip_gap low (b ∷ bytes) (x ∷ children) byte zero same asc gap =
      child_at-front b byte ((b, x) ∷ zip bytes children) (gap_front low b bytes byte gap) (omega arith, asc.1, above-zip (suc b) bytes children (omega arith) asc.2)
  child_at-zip_gap low (b ∷ bytes) (x ∷ children) byte (suc place) same asc gap =
      let smaller : b < byte = gap.smaller_before 0 (omega arith) in
      rw (child_at-later b byte x (zip bytes children) (λ e. omega arith)) (child_at-zip_gap (suc b) bytes children byte place (omega arith) asc.2 (gap_rest b bytes byte place gap))

  pub without_child-zip_gap : (low : ℕ) (bytes : List ℕ) (children : List H) (byte place : ℕ) → length children ≡ length bytes → IsAscendingFrom low bytes → IsGapFor bytes byte place → without_child (zip bytes children) byte ≡ zip bytes children
  without_child-zip_gap low [] children byte place same asc gap = refl
  without_child-zip_gap low (b ∷ bytes) [] byte place same asc gap = absurd (omega arith)
  without_child-zip_gap low (b ∷ bytes) (x ∷ children) byte zero same asc gap =
      without_child-front b byte ((b, x) ∷ zip bytes children) (gap_front low b bytes byte gap) (omega arith, asc.1, above-zip (suc b) bytes children (omega arith) asc.2)
  without_child-zip_gap low (b ∷ bytes) (x ∷ children) byte (suc place) same asc gap =
      let smaller : b < byte = gap.smaller_before 0 (omega arith) in
      rw (without_child-later b byte x (zip bytes children) (λ e. omega arith)) (ap (λ rest. (b, x) ∷ rest) (without_child-zip_gap (suc b) bytes children byte place (omega arith) asc.2 (gap_rest b bytes byte place gap)))

  -- putting byte and child into the gap writes the child under the byte
  pub with_child-zip_insert : (low : ℕ) (bytes : List ℕ) (children : List H) (byte place : ℕ) (child : H) → length children ≡ length bytes → IsAscendingFrom low bytes → IsGapFor bytes byte place → with_child (zip bytes children) byte child ≡ zip (insert bytes place byte) (insert children place child)
  with_child-zip_insert low [] [] byte zero child same asc gap = refl
  with_child-zip_insert low [] (x ∷ children) byte place child same asc gap = absurd (omega arith)
  with_child-zip_insert low [] [] byte (suc place) child same asc gap = absurd (omega (arith, gap.in_range))
  with_child-zip_insert low (b ∷ bytes) [] byte place child same asc gap = absurd (omega arith)
  with_child-zip_insert low (b ∷ bytes) (x ∷ children) byte zero child same asc gap =
      with_child-front b byte ((b, x) ∷ zip bytes children) child (gap_front low b bytes byte gap) (omega arith, asc.1, above-zip (suc b) bytes children (omega arith) asc.2)
  with_child-zip_insert low (b ∷ bytes) (x ∷ children) byte (suc place) child same asc gap =
      let smaller : b < byte = gap.smaller_before 0 (omega arith) in
      rw (with_child-later b byte x (zip bytes children) child smaller) (ap (λ rest. (b, x) ∷ rest) (with_child-zip_insert (suc b) bytes children byte place child (omega arith) asc.2 (gap_rest b bytes byte place gap)))

module _ {H : Type 0} {prefix_room room : ℕ} {header : Header} {bytes : List ℕ} {children : List H} (sorted : IsSortedNode prefix_room room header bytes children) where
  pub bytes_counted : header.count ≡ length bytes
  bytes_counted = sorted.counted ∙ length-zip bytes children sorted.beside

  pub count_fits : header.count ≤ 256
  count_fits = omega (arith, bytes_counted, ascending-length 0 bytes (omega arith) sorted.ascending)

-- fields with as many children as bytes, whose pairs are sound
fields_sorted : {H : Type 0} (prefix_room room : ℕ) (header : Header) (bytes : List ℕ) (children : List H) → header.count ≡ length bytes → length children ≡ length bytes → IsInner prefix_room room (inner_with header (zip bytes children)) → IsSortedNode prefix_room room header bytes children
fields_sorted prefix_room room header bytes children counted beside sound = record {
  ascending = subst IsAscending (key_bytes-zip bytes children beside) sound.ascending;
  beside = beside;
  counted = counted ∙ sym (length-zip bytes children beside);
  sound = sound;
}

module _ {H : Type 0} (prefix_room room : ℕ) (header : Header) (bytes : List ℕ) (children : List H) (sorted : IsSortedNode prefix_room room header bytes children) (byte place : ℕ) (gap : IsGapFor bytes byte place) where
  -- a node with spare capacity for a new byte is not full
  pub not_full : (node : Inner H) → zip bytes children ≡ node.children → HasRoomFor room node byte → length bytes < room
  not_full node view_is has_room =
      let absent : child_at node.children byte ≡ None = subst (λ cs. child_at cs byte ≡ None) view_is (child_at-zip_gap 0 bytes children byte place sorted.beside sorted.ascending gap) in
      let below : length node.children < room = has_room (rw absent refl) in
      omega (arith, below, ap length view_is, length-zip bytes children sorted.beside)

  -- the fields after byte and child were put into the gap
  pub sorted-insert : (child : H) → byte < 256 → length bytes < room → (counted : Header) → counted ≡ record header { count = header.count + 1 } → IsSortedNode prefix_room room counted (insert bytes place byte) (insert children place child)
  sorted-insert child fits below counted one_more =
      let longer = length-insert bytes place byte gap.in_range in
      let node : Inner H = inner_with header (zip bytes children) in
      let sound = subst (λ cs. IsInner prefix_room room (inner_with header cs)) (with_child-zip_insert 0 bytes children byte place child sorted.beside sorted.ascending gap) (sound_written prefix_room room node byte child sorted.sound fits (λ _. omega (arith, below, length-zip bytes children sorted.beside))) in
      rw one_more (fields_sorted prefix_room room (record header { count = header.count + 1 }) (insert bytes place byte) (insert children place child) (omega (arith, bytes_counted sorted, longer)) (omega (arith, sorted.beside, longer, length-insert children place child (omega (arith, gap.in_range, sorted.beside)))) sound)

module _ {H : Type 0} (prefix_room room : ℕ) (header : Header) (bytes : List ℕ) (children : List H) (sorted : IsSortedNode prefix_room room header bytes children) (byte place : ℕ) (at : IsByteAt bytes byte place) where
  -- the fields after the child at the byte's place was written over
  pub sorted-set : (child : H) → byte < 256 → HasRoomFor room (inner_with header (zip bytes children)) byte → IsSortedNode prefix_room room header bytes (set children place child)
  sorted-set child fits has_room =
      let sound = subst (λ cs. IsInner prefix_room room (inner_with header cs)) (with_child-zip_set 0 bytes children byte place child sorted.beside sorted.ascending at) (sound_written prefix_room room (inner_with header (zip bytes children)) byte child sorted.sound fits has_room) in
      fields_sorted prefix_room room header bytes (set children place child) (bytes_counted sorted) (simp length-set sorted.beside) sound

  -- the fields after byte and child were taken out of their place
  pub sorted-remove : (counted : Header) → counted ≡ record header { count = header.count - 1 } → IsSortedNode prefix_room room counted (remove bytes place) (remove children place)
  sorted-remove counted one_less =
      let shorter = length-remove bytes place at.in_range in
      let sound = subst (λ cs. IsInner prefix_room room (inner_with header cs)) (without_child-zip_remove 0 bytes children byte place sorted.beside sorted.ascending at) (sound_removed prefix_room room (inner_with header (zip bytes children)) byte sorted.sound) in
      rw one_less (fields_sorted prefix_room room (record header { count = header.count - 1 }) (remove bytes place) (remove children place) (omega (arith, bytes_counted sorted, shorter)) (omega (arith, sorted.beside, shorter, length-remove children place (omega (arith, at.in_range, sorted.beside)))) sound)

-- the place of the last element
pub last_below : {n : ℕ} → 0 < n → n - 1 < n
last_below some = omega arith

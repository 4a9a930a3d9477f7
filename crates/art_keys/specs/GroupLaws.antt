-- Grouped byte strings: their length, each of their bytes, and their order. No public clause cites this.
use Rattle.std.specs.Prelude.{◌≡◌, ℕ, zero, suc, ◌+◌, ◌-◌, ◌*◌, ◌/◌, ◌%◌, ◌<◌, ◌≤◌, List, [], ◌∷◌, ◌++◌, length, replicate, drop, get_or, min, refl}
use Rattle.std.specs.Ordering.{nat_cmp, ordering_reverse}
use Rattle.std.specs.declared.cmp.Ordering.TheVariants.{Less, Equal}
use Rattle.std.specs.Cmp.{nat_cmp_is}
use Rattle.std.proofs.Common.{sym, ap, ◌∙◌, arith, append_assoc, length-append, length-drop}
use Rattle.std.proofs.lemmas.Cmp.{nat_list_cmp_total}
use Rattle.std.proofs.lemmas.List.{length-replicate, get_or-replicate, get_or-drop}
use Rattle.std.proofs.Math.ListN.{get_or-append}
use Rattle.std.proofs.Math.Seq.{get_or-append_seam}
use Rattle.std.proofs.lemmas.List.Elements.{All-nil, All-cons, All-append, All-replicate, All-head, All-tail}
use Rattle.art_bytes.specs.Text.{IsByte, IsText, text_order}
use Rattle.art_mapped.specs.DigitLaws.{then_assoc}
use Rattle.art_keys.specs.Encoding.{SortedBy}
use Rattle.art_keys.specs.Groups.{grouped_from, grouped, IsByteOfGroup}

pub length-grouped_from : (room : ℕ) → room ≤ 8 → (bytes : List ℕ) → length (grouped_from room bytes) ≡ room + 1 + 9 * ((length bytes + 7 - room) / 8)
length-grouped_from room most [] = omega (arith, length-append (replicate room 0) ((8 - room) ∷ []), length-replicate {A = ℕ} room 0)
length-grouped_from zero most (byte ∷ bytes) = omega (arith, length-grouped_from 7 (omega arith) bytes)
length-grouped_from (suc room) most (byte ∷ bytes) = omega (arith, length-grouped_from room (omega arith) bytes)

-- a common front does not decide
same_front : (front a b : List ℕ) → text_order (front ++ a) (front ++ b) ≡ text_order a b
same_front [] a b = refl
same_front (x ∷ front) a b = rw (tied x) (same_front front a b)
  where
    tied : (x : ℕ) → nat_cmp x x ≡ Equal
    tied x = sym (nat_cmp_is x x Equal refl)

less_is : (m n : ℕ) → m < n → nat_cmp m n ≡ Less
less_is m n less = sym (nat_cmp_is m n Less less)

-- zeros that end sooner are less
zeros_less : (room used : ℕ) → used + room < 8 → (bytes r s : List ℕ) → text_order (replicate room 0 ++ used ∷ r) (grouped_from room bytes ++ s) ≡ Less
zeros_less room used few [] r s =
    rw (append_assoc (replicate room 0) ((8 - room) ∷ []) s, same_front (replicate room 0) (used ∷ r) ((8 - room) ∷ s), less_is used (8 - room) (omega arith)) refl
zeros_less zero used few (byte ∷ bytes) r s = rw (less_is used 9 (omega arith)) refl
zeros_less (suc room) used few (zero ∷ bytes) r s = zeros_less room used (omega arith) bytes r s
zeros_less (suc room) used few (suc byte ∷ bytes) r s = rw (less_is 0 (suc byte) (omega arith)) refl

end_less : (room : ℕ) → room ≤ 8 → (byte : ℕ) (bytes r s : List ℕ) → text_order (grouped_from room [] ++ r) (grouped_from room (byte ∷ bytes) ++ s) ≡ Less
end_less zero most byte bytes r s = refl
end_less (suc room) most zero bytes r s =
    rw (append_assoc (replicate room 0) ((8 - suc room) ∷ []) r) (zeros_less room (8 - suc room) (omega arith) bytes r s)
end_less (suc room) most (suc byte) bytes r s = rw (less_is 0 (suc byte) (omega arith)) refl

-- the groups sort as the bytes do, whatever follows
pub groups_sort : (room : ℕ) → room ≤ 8 → (xs ys : List ℕ) → SortedBy (text_order xs ys) (grouped_from room xs) (grouped_from room ys)
groups_sort room most [] [] r s = same_front (grouped_from room []) r s
groups_sort room most [] (y ∷ ys) r s = end_less room most y ys r s
groups_sort room most (x ∷ xs) [] r s =
    nat_list_cmp_total.antisymm (grouped_from room (x ∷ xs) ++ r) (grouped_from room [] ++ s) ∙ ap ordering_reverse (end_less room most x xs s r)
groups_sort zero most (x ∷ xs) (y ∷ ys) r s =
    rw (groups_sort 7 (omega arith) xs ys r s) (sym (then_assoc (nat_cmp x y) (text_order xs ys) (text_order r s)))
groups_sort (suc room) most (x ∷ xs) (y ∷ ys) r s =
    rw (groups_sort room (omega arith) xs ys r s) (sym (then_assoc (nat_cmp x y) (text_order xs ys) (text_order r s)))

-- the bytes that are left in a group, and zeros after the last
byte_in_group : (room place : ℕ) → place < room → (bytes : List ℕ) → get_or (grouped_from room bytes) place 0 ≡ get_or bytes place 0
byte_in_group room place here [] =
    let long : place < length (replicate {A = ℕ} room 0) = rw (length-replicate {A = ℕ} room 0) here in
    get_or-append (replicate room 0) ((8 - room) ∷ []) 0 place long ∙ get_or-replicate {A = ℕ} room place 0 0 here
byte_in_group zero place here (byte ∷ bytes) = absurd (omega arith)
byte_in_group (suc room) zero here (byte ∷ bytes) = refl
byte_in_group (suc room) (suc place) here (byte ∷ bytes) = byte_in_group room place (omega arith) bytes

-- the marker of a group
marker_of_group : (room : ℕ) → room ≤ 8 → (bytes : List ℕ) → get_or (grouped_from room bytes) room 0 ≡ min (8 - room + length bytes) 9
marker_of_group room most [] =
    let seam = get_or-append_seam (replicate {A = ℕ} room 0) (8 - room) [] 0 in
    rw (length-replicate {A = ℕ} room 0) at seam ∙ omega arith
marker_of_group zero most (byte ∷ bytes) = omega arith
marker_of_group (suc room) most (byte ∷ bytes) = marker_of_group room (omega arith) bytes ∙ omega arith

-- the next group
next_group : (room place : ℕ) (bytes : List ℕ) → room < length bytes → get_or (grouped_from room bytes) (room + 1 + place) 0 ≡ get_or (grouped (drop room bytes)) place 0
next_group room place [] more = absurd (omega arith)
next_group zero place (byte ∷ bytes) more = let up : 1 + place ≡ suc place = omega arith in rw up refl
next_group (suc room) place (byte ∷ bytes) more =
    let up : suc room + 1 + place ≡ suc (room + 1 + place) = omega arith in
    rw up (next_group room place bytes (omega arith))

-- each byte of the groups is one of the bytes, a zero or a marker
first_group : (place : ℕ) → place < 9 → (bytes : List ℕ) → IsByteOfGroup bytes 0 place (get_or (grouped bytes) place 0)
first_group place small bytes =
    record {
      begins = omega arith;
      item = λ inside. byte_in_group 8 place inside bytes ∙ ap (λ at. get_or bytes at 0) (let zero_and : place ≡ 0 + place = omega arith in zero_and);
      marker = λ last. let at : place ≡ 8 = omega arith in rw at (marker_of_group 8 (omega arith) bytes ∙ omega arith);
    }

pub byte_of_groups : (group place : ℕ) → place < 9 → (bytes : List ℕ) → group * 9 + place < length (grouped bytes) → IsByteOfGroup bytes (group * 8) place (get_or (grouped bytes) (group * 9 + place) 0)
byte_of_groups zero place small bytes here = let at : 0 * 9 + place ≡ place = omega arith in rw at (first_group place small bytes)
byte_of_groups (suc group) place small bytes here =
    let size = length-grouped_from 8 (omega arith) bytes in
    let more : 8 < length bytes = omega (arith, size) in
    let rest = drop 8 bytes in
    let rest_long = length-drop 8 bytes in
    let rest_size = length-grouped_from 8 (omega arith) rest in
    let later = byte_of_groups group place small rest (omega (arith, size, rest_long, rest_size)) in
    let at : suc group * 9 + place ≡ 8 + 1 + (group * 9 + place) = omega arith in
    let start : suc group * 8 ≡ 8 + group * 8 = omega arith in
    rw (at, next_group 8 (group * 9 + place) bytes more, start) (record {
      begins = omega (arith, later.begins, rest_long);
      item = λ inside. later.item inside ∙ get_or-drop 8 bytes (group * 8 + place) 0 ∙ ap (λ at. get_or bytes at 0) (let same : 8 + (group * 8 + place) ≡ 8 + group * 8 + place = omega arith in same);
      marker = λ last. later.marker last ∙ omega (arith, rest_long);
    })

pub byte_of_index : (index : ℕ) (bytes : List ℕ) → index < length (grouped bytes) → IsByteOfGroup bytes (index / 9 * 8) (index % 9) (get_or (grouped bytes) index 0)
byte_of_index index bytes here =
    let whole : index / 9 * 9 + index % 9 ≡ index = omega arith in
    rw whole at (byte_of_groups (index / 9) (index % 9) (omega arith) bytes (rw whole here))

pub strings_sort : (xs ys : List ℕ) → SortedBy (text_order xs ys) (grouped xs) (grouped ys)
strings_sort xs ys = groups_sort 8 (omega arith) xs ys

-- the groups of bytes are bytes
pub groups_are_bytes : (room : ℕ) → room ≤ 8 → (bytes : List ℕ) → IsText bytes → IsText (grouped_from room bytes)
groups_are_bytes room most [] bytes_are = All-append IsByte (replicate room 0) ((8 - room) ∷ []) (All-replicate IsByte room 0 (omega arith)) (All-cons IsByte (8 - room) [] (omega arith) (All-nil IsByte))
groups_are_bytes zero most (byte ∷ bytes) bytes_are =
    All-cons IsByte 9 (byte ∷ grouped_from 7 bytes) (omega arith)
    (All-cons IsByte byte (grouped_from 7 bytes) (All-head IsByte byte bytes bytes_are) (groups_are_bytes 7 (omega arith) bytes (All-tail IsByte byte bytes bytes_are)))
groups_are_bytes (suc room) most (byte ∷ bytes) bytes_are =
    All-cons IsByte byte (grouped_from room bytes) (All-head IsByte byte bytes bytes_are) (groups_are_bytes room (omega arith) bytes (All-tail IsByte byte bytes bytes_are))

pub strings_are_bytes : (bytes : List ℕ) → IsText bytes → IsText (grouped bytes)
strings_are_bytes bytes bytes_are = groups_are_bytes 8 (omega arith) bytes bytes_are

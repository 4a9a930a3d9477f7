-- Keys that begin with a prefix are between its bounds, and other keys are not. No public clause cites this.
use Rattle.std.specs.Prelude.{◌≡◌, ℕ, zero, suc, ◌+◌, ◌-◌, ◌/◌, ◌^◌, ◌<◌, ◌≤◌, List, [], ◌∷◌, ◌++◌, length, take, drop, replicate, get_or, Bool, ◌&&◌, refl}
use Rattle.std.specs.Ordering.{nat_cmp, is_eq, is_gt, is_lt, ordering_then}
use Rattle.std.specs.declared.cmp.Ordering.{Ordering}
use Rattle.std.specs.declared.cmp.Ordering.TheVariants.{Less, Equal, Greater}
use Rattle.std.specs.Cmp.{nat_cmp_is}
use Rattle.std.proofs.Common.{sym, ap, ◌∙◌, arith, append_assoc}
use Rattle.std.proofs.lemmas.Cmp.{ranked}
use Rattle.std.proofs.lemmas.Map.Text.{is_eq-slice_cmp}
use Rattle.std.proofs.Math.ListN.{get_or-append}
use Rattle.std.proofs.lemmas.List.{append-nil, length-replicate, get_or-replicate, get_or-drop}
use Rattle.std.proofs.lemmas.List.Elements.{All-nil, All-cons, All-append, All-replicate, All-head, All-tail}
use Rattle.art_bytes.specs.Text.{IsByte, IsText, text_order}
use Rattle.art_mapped.specs.DigitLaws.{then_assoc}
use Rattle.art_keys.specs.Encoding.{SortedBy, Agrees}
use Rattle.art_keys.specs.EncodingLaws.{joined_agree, later_short}
use Rattle.art_keys.specs.Groups.{grouped_from, grouped}
use Rattle.art_keys.specs.GroupLaws.{strings_sort, strings_are_bytes}
use Rattle.art_keys.specs.Heads.{head_at}
use Rattle.art_keys.specs.HeadLaws.{head_of-more}
use Rattle.art_keys.specs.Strings.{raised, IsStringText}
use Rattle.art_keys.specs.StringLaws.{suc_cmp, more_zero}
use Rattle.art_keys.specs.Prefixes.{highest, edge_encoded, edge_order, prefix_cmp, begins_with, raised_bound, begun_from, grouped_bound}
use Rattle.art_keys.specs.declared.prefix.Edge.{Edge}
use Rattle.art_keys.specs.declared.prefix.Edge.TheVariants.{Lowest, Highest}

-- the bound above all keys
pub length-highest : length highest ≡ 2 ^ 33
unfolding highest
length-highest = length-replicate {A = ℕ} (2 ^ 33) 255

pub byte_of_highest : (index : ℕ) → index < 2 ^ 33 → get_or highest index 0 ≡ 255
unfolding highest
byte_of_highest index here = get_or-replicate {A = ℕ} (2 ^ 33) index 255 0 here

highest_is_bytes : IsText highest
unfolding highest
highest_is_bytes = All-replicate IsByte (2 ^ 33) 255 (omega arith)

-- a text of bytes is below a longer one of the greatest bytes
above_byte : (byte : ℕ) → IsByte byte → (o p : Ordering) → nat_cmp 255 byte ≡ o → p ≡ Greater → ordering_then o p ≡ Greater
above_byte byte is_byte Less p is later =
    let less : 255 < byte = ranked 255 byte Less (sym is) in
    absurd (omega (arith, is_byte))
above_byte byte is_byte Equal p is later = later
above_byte byte is_byte Greater p is later = refl

above_bytes : (more : ℕ) (text : List ℕ) → IsText text → length text < more → text_order (replicate more 255) text ≡ Greater
above_bytes zero text are short = absurd (omega arith)
above_bytes (suc more) [] are short = refl
above_bytes (suc more) (byte ∷ text) are short =
    above_byte byte (All-head IsByte byte text are) (nat_cmp 255 byte) (text_order (replicate more 255) text) refl (above_bytes more text (All-tail IsByte byte text are) (omega arith))

above_highest : (text : List ℕ) → IsText text → length text < 2 ^ 32 → text_order highest text ≡ Greater
unfolding highest
above_highest text are short = above_bytes (2 ^ 33) text are (omega arith)

pub edges_are_bytes : (edge : Edge) → IsText (edge_encoded edge)
edges_are_bytes Lowest = All-nil IsByte
edges_are_bytes Highest = highest_is_bytes

pub edges_agree : (edge : Edge) (text : List ℕ) → IsText text → length text < 2 ^ 32 → Agrees (text_order (edge_encoded edge) text) (edge_order edge)
edges_agree Lowest [] are short = tt
edges_agree Lowest (byte ∷ text) are short = refl
edges_agree Highest text are short = rw (above_highest text are short) refl

-- a prefix of strings
pub starts_equal : (prefix text : List ℕ) → begins_with prefix text ≡ is_eq (prefix_cmp prefix text)
starts_equal prefix text = sym (is_eq-slice_cmp prefix (take (length prefix) text))

pub raised_bounds_are_bytes : (prefix : List ℕ) (edge : Edge) → IsStringText prefix → IsText (raised_bound prefix edge)
raised_bounds_are_bytes [] edge below = edges_are_bytes edge
raised_bounds_are_bytes (byte ∷ prefix) edge below =
    let first : byte < 254 = All-head (λ byte. byte < 254) byte prefix below in
    All-cons IsByte (suc byte) (raised_bound prefix edge) (omega arith) (raised_bounds_are_bytes prefix edge (All-tail (λ byte. byte < 254) byte prefix below))

pub edge_byte : (edge : Edge) (index : ℕ) → index < length (edge_encoded edge) → get_or (edge_encoded edge) index 0 ≡ 255
edge_byte Lowest index here = absurd (omega arith)
edge_byte Highest index here = byte_of_highest index (omega (arith, length-highest))

-- eight bytes of the bound above all keys
pub head_of_highest : (skip : ℕ) → skip < 2 ^ 32 → head_at skip highest ≡ 2 ^ 64 - 1
head_of_highest skip here =
    let text = drop skip highest in
    let at : (place : ℕ) → place < 8 → get_or text place 0 ≡ 255 = λ place few. get_or-drop skip highest place 0 ∙ byte_of_highest (skip + place) (omega arith) in
    omega (
      arith,
      head_of-more 0 text,
      head_of-more 1 text,
      head_of-more 2 text,
      head_of-more 3 text,
      head_of-more 4 text,
      head_of-more 5 text,
      head_of-more 6 text,
      head_of-more 7 text,
      at 0 (omega arith),
      at 1 (omega arith),
      at 2 (omega arith),
      at 3 (omega arith),
      at 4 (omega arith),
      at 5 (omega arith),
      at 6 (omega arith),
      at 7 (omega arith),
    )

-- a byte of a bound behind those of the prefix
pub byte_behind : (front : List ℕ) (edge : Edge) (index : ℕ) → length front ≤ index → index < length (front ++ edge_encoded edge)
    → get_or (front ++ edge_encoded edge) index 0 ≡ 255
byte_behind [] edge index behind here = edge_byte edge index here
byte_behind (byte ∷ front) edge zero behind here = absurd (omega arith)
byte_behind (byte ∷ front) edge (suc index) behind here = byte_behind front edge index (omega arith) (omega arith)

pub length-raised_bound : (prefix : List ℕ) (edge : Edge) → length (raised_bound prefix edge) ≡ length prefix + length (edge_encoded edge)
length-raised_bound [] edge = omega arith
length-raised_bound (byte ∷ prefix) edge = omega (arith, length-raised_bound prefix edge)

pub raised_bound_inside : (prefix : List ℕ) (edge : Edge) (index : ℕ) → index < length prefix
    → get_or (raised_bound prefix edge) index 0 ≡ get_or prefix index 0 + 1
raised_bound_inside [] edge index here = absurd (omega arith)
raised_bound_inside (byte ∷ prefix) edge zero here = omega arith
raised_bound_inside (byte ∷ prefix) edge (suc index) here = raised_bound_inside prefix edge index (omega arith)

pub raised_bound_behind : (prefix : List ℕ) (edge : Edge) (index : ℕ) → length prefix ≤ index → index < length (raised_bound prefix edge)
    → get_or (raised_bound prefix edge) index 0 ≡ 255
raised_bound_behind [] edge index behind here = edge_byte edge index here
raised_bound_behind (byte ∷ prefix) edge zero behind here = absurd (omega arith)
raised_bound_behind (byte ∷ prefix) edge (suc index) behind here = raised_bound_behind prefix edge index (omega arith) (omega arith)

-- one item more on both sides
step_agrees : (first o p : Ordering) → Agrees o p → Agrees (ordering_then first o) (ordering_then first p)
step_agrees Less o p later = refl
step_agrees Equal o p later = later
step_agrees Greater o p later = refl

-- the laws hold whatever follows a key, as in a tuple
pub raised_bounds_agree : (prefix : List ℕ) (edge : Edge) (text rest : List ℕ) → IsText (raised text ++ rest) → length (raised text ++ rest) < 2 ^ 32
    → Agrees (text_order (raised_bound prefix edge) (raised text ++ rest)) (ordering_then (prefix_cmp prefix text) (edge_order edge))
raised_bounds_agree [] edge text rest are short = edges_agree edge (raised text ++ rest) are short
raised_bounds_agree (x ∷ prefix) edge [] rest are short = rw (more_zero x) refl
raised_bounds_agree (x ∷ prefix) edge (y ∷ text) rest are short =
    rw (suc_cmp x y, then_assoc (nat_cmp x y) (prefix_cmp prefix text) (edge_order edge))
    (step_agrees (nat_cmp x y) (text_order (raised_bound prefix edge) (raised text ++ rest)) (ordering_then (prefix_cmp prefix text) (edge_order edge))
    (raised_bounds_agree prefix edge text rest (All-tail IsByte (suc y) (raised text ++ rest) are) (omega arith)))

-- a prefix of byte strings: its lower bound is itself
lower_agrees : (prefix text rest : List ℕ) → Agrees (ordering_then (text_order prefix text) (text_order [] rest)) (ordering_then (prefix_cmp prefix text) Less)
lower_agrees [] [] [] = tt
lower_agrees [] [] (z ∷ rest) = refl
lower_agrees [] (y ∷ text) rest = refl
lower_agrees (x ∷ prefix) [] rest = refl
lower_agrees (x ∷ prefix) (y ∷ text) rest =
    rw (then_assoc (nat_cmp x y) (prefix_cmp prefix text) Less, then_assoc (nat_cmp x y) (text_order prefix text) (text_order [] rest))
    (step_agrees (nat_cmp x y) (ordering_then (text_order prefix text) (text_order [] rest)) (ordering_then (prefix_cmp prefix text) Less) (lower_agrees prefix text rest))

greater_is : (m n : ℕ) → n < m → nat_cmp m n ≡ Greater
greater_is m n more = sym (nat_cmp_is m n Greater more)

-- its upper bound is above zeros that end
above_zeros : (room used : ℕ) → used ≤ 8 → (prefix rest : List ℕ) → IsText (replicate room 0 ++ used ∷ rest) → length (replicate room 0 ++ used ∷ rest) < 2 ^ 32
    → text_order (begun_from room prefix ++ highest) (replicate room 0 ++ used ∷ rest) ≡ Greater
above_zeros room used few [] rest are short = above_highest (replicate room 0 ++ used ∷ rest) are short
above_zeros zero used few (byte ∷ prefix) rest are short = rw (greater_is 9 used (omega arith)) refl
above_zeros (suc room) used few (zero ∷ prefix) rest are short =
    above_zeros room used few prefix rest (All-tail IsByte 0 (replicate room 0 ++ used ∷ rest) are) (omega arith)
above_zeros (suc room) used few (suc byte ∷ prefix) rest are short = rw (greater_is (suc byte) 0 (omega arith)) refl

upper_agrees : (room : ℕ) → (prefix text rest : List ℕ) → IsText (grouped_from room text ++ rest) → length (grouped_from room text ++ rest) < 2 ^ 32
    → Agrees (text_order (begun_from room prefix ++ highest) (grouped_from room text ++ rest)) (ordering_then (prefix_cmp prefix text) Greater)
upper_agrees room [] text rest are short = rw (above_highest (grouped_from room text ++ rest) are short) refl
upper_agrees room (x ∷ prefix) [] rest are short =
    let same = append_assoc (replicate room 0) ((8 - room) ∷ []) rest in
    let few : 8 - room ≤ 8 = omega arith in
    rw (same, above_zeros room (8 - room) few (x ∷ prefix) rest (rw same at are) (rw same at short)) refl
upper_agrees zero (x ∷ prefix) (y ∷ text) rest are short =
    rw (then_assoc (nat_cmp x y) (prefix_cmp prefix text) Greater)
    (step_agrees (nat_cmp x y) (text_order (begun_from 7 prefix ++ highest) (grouped_from 7 text ++ rest)) (ordering_then (prefix_cmp prefix text) Greater)
    (upper_agrees 7 prefix text rest (All-tail IsByte y (grouped_from 7 text ++ rest) (All-tail IsByte 9 (y ∷ grouped_from 7 text ++ rest) are)) (omega arith)))
upper_agrees (suc room) (x ∷ prefix) (y ∷ text) rest are short =
    rw (then_assoc (nat_cmp x y) (prefix_cmp prefix text) Greater)
    (step_agrees (nat_cmp x y) (text_order (begun_from room prefix ++ highest) (grouped_from room text ++ rest)) (ordering_then (prefix_cmp prefix text) Greater)
    (upper_agrees room prefix text rest (All-tail IsByte y (grouped_from room text ++ rest) are) (omega arith)))

pub grouped_bounds_agree : (prefix : List ℕ) (edge : Edge) (text rest : List ℕ) → IsText (grouped text ++ rest) → length (grouped text ++ rest) < 2 ^ 32
    → Agrees (text_order (grouped_bound prefix edge) (grouped text ++ rest)) (ordering_then (prefix_cmp prefix text) (edge_order edge))
grouped_bounds_agree prefix Lowest text rest are short =
    let order : text_order (grouped prefix) (grouped text ++ rest) ≡ ordering_then (text_order prefix text) (text_order [] rest) = ap (λ a. text_order a (grouped text ++ rest)) (sym (append-nil (grouped prefix))) ∙ strings_sort prefix text [] rest in
    rw order (lower_agrees prefix text rest)
grouped_bounds_agree prefix Highest text rest are short = upper_agrees 8 prefix text rest are short

begun_is_bytes : (room : ℕ) (prefix : List ℕ) → IsText prefix → IsText (begun_from room prefix)
begun_is_bytes room [] are = All-nil IsByte
begun_is_bytes zero (byte ∷ prefix) are =
    All-cons IsByte 9 (byte ∷ begun_from 7 prefix) (omega arith)
    (All-cons IsByte byte (begun_from 7 prefix) (All-head IsByte byte prefix are) (begun_is_bytes 7 prefix (All-tail IsByte byte prefix are)))
begun_is_bytes (suc room) (byte ∷ prefix) are =
    All-cons IsByte byte (begun_from room prefix) (All-head IsByte byte prefix are) (begun_is_bytes room prefix (All-tail IsByte byte prefix are))

pub grouped_bounds_are_bytes : (prefix : List ℕ) (edge : Edge) → IsText prefix → IsText (grouped_bound prefix edge)
grouped_bounds_are_bytes prefix Lowest are = strings_are_bytes prefix are
grouped_bounds_are_bytes prefix Highest are = All-append IsByte (begun_from 8 prefix) highest (begun_is_bytes 8 prefix are) highest_is_bytes

pub length-begun_from : (room : ℕ) → room ≤ 8 → (prefix : List ℕ) → length (begun_from room prefix) ≡ length prefix + (length prefix + 7 - room) / 8
length-begun_from room most [] = omega arith
length-begun_from zero most (byte ∷ prefix) = omega (arith, length-begun_from 7 (omega arith) prefix)
length-begun_from (suc room) most (byte ∷ prefix) = omega (arith, length-begun_from room (omega arith) prefix)

-- its bytes are those of the groups
begun_item : (room : ℕ) (prefix : List ℕ) (index : ℕ) → index < length (begun_from room prefix)
    → get_or (begun_from room prefix) index 0 ≡ get_or (grouped_from room prefix) index 0
begun_item room [] index here = absurd (omega arith)
begun_item zero (byte ∷ prefix) zero here = refl
begun_item zero (byte ∷ prefix) (suc zero) here = refl
begun_item zero (byte ∷ prefix) (suc (suc index)) here = begun_item 7 prefix index (omega arith)
begun_item (suc room) (byte ∷ prefix) zero here = refl
begun_item (suc room) (byte ∷ prefix) (suc index) here = begun_item room prefix index (omega arith)

pub begun_byte : (prefix : List ℕ) (index : ℕ) → index < length (begun_from 8 prefix)
    → get_or (grouped_bound prefix Highest) index 0 ≡ get_or (grouped prefix) index 0
begun_byte prefix index here = get_or-append (begun_from 8 prefix) highest 0 index here ∙ begun_item 8 prefix index here

-- a bound of the first parts of a key
front_agrees : (o : Ordering) (edge : Edge) (a b later : List ℕ) → SortedBy o a b → IsText later → length (b ++ later) < 2 ^ 32
    → Agrees (text_order (a ++ edge_encoded edge) (b ++ later)) (ordering_then o (edge_order edge))
front_agrees o edge a b later sorted are short =
    joined_agree o (edge_order edge) a b (edge_encoded edge) later sorted (edges_agree edge later are (later_short b later (2 ^ 32) short))

pub first_agree_1 : (o : Ordering) (edge : Edge) (a b c rest : List ℕ) → SortedBy o a b → IsText c → IsText rest → length ((b ++ c) ++ rest) < 2 ^ 32
    → Agrees (text_order (a ++ edge_encoded edge) ((b ++ c) ++ rest)) (ordering_then o (edge_order edge))
first_agree_1 o edge a b c rest sorted c_is rest_is short =
    rw (append_assoc b c rest) (front_agrees o edge a b (c ++ rest) sorted (All-append IsByte c rest c_is rest_is) (rw (append_assoc b c rest) at short))

pub first_agree_2 : (o : Ordering) (edge : Edge) (a b c d rest : List ℕ) → SortedBy o a b → IsText c → IsText d → IsText rest
    → length (((b ++ c) ++ d) ++ rest) < 2 ^ 32
    → Agrees (text_order (a ++ edge_encoded edge) (((b ++ c) ++ d) ++ rest)) (ordering_then o (edge_order edge))
first_agree_2 o edge a b c d rest sorted c_is d_is rest_is short =
    rw (append_assoc b c d) (first_agree_1 o edge a b (c ++ d) rest sorted (All-append IsByte c d c_is d_is) rest_is (rw (append_assoc b c d) at short))

pub first_agree_3 : (o : Ordering) (edge : Edge) (a b c d e rest : List ℕ) → SortedBy o a b → IsText c → IsText d → IsText e → IsText rest
    → length ((((b ++ c) ++ d) ++ e) ++ rest) < 2 ^ 32
    → Agrees (text_order (a ++ edge_encoded edge) ((((b ++ c) ++ d) ++ e) ++ rest)) (ordering_then o (edge_order edge))
first_agree_3 o edge a b c d e rest sorted c_is d_is e_is rest_is short =
    rw (append_assoc b c d) (first_agree_2 o edge a b (c ++ d) e rest sorted (All-append IsByte c d c_is d_is) e_is rest_is (rw (append_assoc b c d) at short))

pub first_agree_4 : (o : Ordering) (edge : Edge) (a b c d e f rest : List ℕ) → SortedBy o a b → IsText c → IsText d → IsText e → IsText f
    → IsText rest → length (((((b ++ c) ++ d) ++ e) ++ f) ++ rest) < 2 ^ 32
    → Agrees (text_order (a ++ edge_encoded edge) (((((b ++ c) ++ d) ++ e) ++ f) ++ rest)) (ordering_then o (edge_order edge))
first_agree_4 o edge a b c d e f rest sorted c_is d_is e_is f_is rest_is short =
    rw (append_assoc b c d) (first_agree_3 o edge a b (c ++ d) e f rest sorted (All-append IsByte c d c_is d_is) e_is f_is rest_is (rw (append_assoc b c d) at short))

pub first_agree_5 : (o : Ordering) (edge : Edge) (a b c d e f g rest : List ℕ) → SortedBy o a b → IsText c → IsText d → IsText e → IsText f
    → IsText g → IsText rest → length ((((((b ++ c) ++ d) ++ e) ++ f) ++ g) ++ rest) < 2 ^ 32
    → Agrees (text_order (a ++ edge_encoded edge) ((((((b ++ c) ++ d) ++ e) ++ f) ++ g) ++ rest)) (ordering_then o (edge_order edge))
first_agree_5 o edge a b c d e f g rest sorted c_is d_is e_is f_is g_is rest_is short =
    rw (append_assoc b c d) (first_agree_4 o edge a b (c ++ d) e f g rest sorted (All-append IsByte c d c_is d_is) e_is f_is g_is rest_is (rw (append_assoc b c d) at short))

-- what a law of prefixes says of one part, whatever follows it
abbrev pub AgreesBefore : Ordering → Edge → List ℕ → List ℕ → Type 0
AgreesBefore o edge bound text =
    (rest : List ℕ) → IsText rest → length (text ++ rest) < 2 ^ 32 → Agrees (text_order bound (text ++ rest)) (ordering_then o (edge_order edge))

-- a bound of the first parts and of a prefix of the next
pub last_agrees_1 : (o p : Ordering) (edge : Edge) (a b c d rest : List ℕ) → SortedBy o a b → AgreesBefore p edge c d → IsText rest
    → length ((b ++ d) ++ rest) < 2 ^ 32
    → Agrees (text_order (a ++ c) ((b ++ d) ++ rest)) (ordering_then (ordering_then o p) (edge_order edge))
last_agrees_1 o p edge a b c d rest sorted last rest_is short =
    rw (append_assoc b d rest, then_assoc o p (edge_order edge))
    (joined_agree o (ordering_then p (edge_order edge)) a b c (d ++ rest) sorted
    (last rest rest_is (later_short b (d ++ rest) (2 ^ 32) (rw (append_assoc b d rest) at short))))

pub last_agrees_2 : (o p : Ordering) (edge : Edge) (a b c d e rest : List ℕ) → SortedBy o a b → AgreesBefore p edge c d → IsText e → IsText rest
    → length (((b ++ d) ++ e) ++ rest) < 2 ^ 32
    → Agrees (text_order (a ++ c) (((b ++ d) ++ e) ++ rest)) (ordering_then (ordering_then o p) (edge_order edge))
last_agrees_2 o p edge a b c d e rest sorted last e_is rest_is short =
    rw (append_assoc (b ++ d) e rest) (last_agrees_1 o p edge a b c d (e ++ rest) sorted last (All-append IsByte e rest e_is rest_is) (rw (append_assoc (b ++ d) e rest) at short))

pub last_agrees_3 : (o p : Ordering) (edge : Edge) (a b c d e f rest : List ℕ) → SortedBy o a b → AgreesBefore p edge c d → IsText e → IsText f
    → IsText rest → length ((((b ++ d) ++ e) ++ f) ++ rest) < 2 ^ 32
    → Agrees (text_order (a ++ c) ((((b ++ d) ++ e) ++ f) ++ rest)) (ordering_then (ordering_then o p) (edge_order edge))
last_agrees_3 o p edge a b c d e f rest sorted last e_is f_is rest_is short =
    rw (append_assoc ((b ++ d) ++ e) f rest) (last_agrees_2 o p edge a b c d e (f ++ rest) sorted last e_is (All-append IsByte f rest f_is rest_is) (rw (append_assoc ((b ++ d) ++ e) f rest) at short))

-- a bound of a prefix of the first part
pub start_agrees_1 : (o : Ordering) (edge : Edge) (a b c rest : List ℕ) → AgreesBefore o edge a b → IsText c → IsText rest → length ((b ++ c) ++ rest) < 2 ^ 32
    → Agrees (text_order a ((b ++ c) ++ rest)) (ordering_then o (edge_order edge))
start_agrees_1 o edge a b c rest first c_is rest_is short =
    rw (append_assoc b c rest) (first (c ++ rest) (All-append IsByte c rest c_is rest_is) (rw (append_assoc b c rest) at short))

pub start_agrees_2 : (o : Ordering) (edge : Edge) (a b c d rest : List ℕ) → AgreesBefore o edge a b → IsText c → IsText d → IsText rest
    → length (((b ++ c) ++ d) ++ rest) < 2 ^ 32
    → Agrees (text_order a (((b ++ c) ++ d) ++ rest)) (ordering_then o (edge_order edge))
start_agrees_2 o edge a b c d rest first c_is d_is rest_is short =
    rw (append_assoc (b ++ c) d rest) (start_agrees_1 o edge a b c (d ++ rest) first c_is (All-append IsByte d rest d_is rest_is) (rw (append_assoc (b ++ c) d rest) at short))

pub start_agrees_3 : (o : Ordering) (edge : Edge) (a b c d e rest : List ℕ) → AgreesBefore o edge a b → IsText c → IsText d → IsText e
    → IsText rest → length ((((b ++ c) ++ d) ++ e) ++ rest) < 2 ^ 32
    → Agrees (text_order a ((((b ++ c) ++ d) ++ e) ++ rest)) (ordering_then o (edge_order edge))
start_agrees_3 o edge a b c d e rest first c_is d_is e_is rest_is short =
    rw (append_assoc ((b ++ c) ++ d) e rest) (start_agrees_2 o edge a b c d (e ++ rest) first c_is d_is (All-append IsByte e rest e_is rest_is) (rw (append_assoc ((b ++ c) ++ d) e rest) at short))

-- where nothing follows
pub agrees_alone : (o : Ordering) (edge : Edge) (bound text : List ℕ) → AgreesBefore o edge bound text → length text < 2 ^ 32
    → Agrees (text_order bound text) (ordering_then o (edge_order edge))
agrees_alone o edge bound text agrees short = rw append-nil at (agrees [] (All-nil IsByte) (rw (append-nil text) short))

-- the first parts tie, and the last begins with the prefix
pub last_begins : (o p : Ordering) (begins : Bool) → begins ≡ is_eq p → is_eq o && begins ≡ is_eq (ordering_then o p)
last_begins Less p begins is = refl
last_begins Equal p begins is = is
last_begins Greater p begins is = refl

-- a key is above the lower bound and below the upper one exactly where it begins with the prefix
pub between : (o : Ordering) → is_lt (ordering_then o Less) && is_gt (ordering_then o Greater) ≡ is_eq o
between Less = refl
between Equal = refl
between Greater = refl

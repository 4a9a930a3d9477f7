-- A prefix compared with the rest of a key, and the side of the key on which texts lie.
use Rattle.std.proofs.Common.{◌≡◌, ◌≢◌, ◌∙◌, ℕ, ◌-◌, nat_eq, List, ◌++◌, length, All, take, drop, min, Ok, Err, get_or, refl, sym, ap, inl, inr}
use Rattle.std.specs.List.{common_prefix_len}
use Rattle.std.specs.declared.cmp.Ordering.{Ordering}
use Rattle.std.specs.declared.cmp.Ordering.TheVariants.{Less, Equal, Greater}
use Rattle.std.proofs.lemmas.Bool.{eq-eqb}
use Rattle.std.proofs.lemmas.Bool.Decides.{eqb_tells}
use Rattle.std.proofs.lemmas.List.{append_assoc, drop_at, take_min, take_rest}
use Rattle.std.proofs.lemmas.List.Elements.{All-weaker}
use Rattle.art_bytes.specs.Text.{IsPrefixOf, text_order}
use Rattle.art_links.specs.FullPrefix.{LieOnSide}
use Rattle.art_arena.specs.CommonPrefix.{prefix_order, full_match}
use Rattle.art_arena.proofs.TextLemmas.{text_order-append, text_order-carried, matched_where_equal, prefix-matched}

-- the prefix is matched
pub full_match-whole : (prefix rest : List ℕ) (n : ℕ) → n ≡ common_prefix_len nat_eq prefix rest → n ≡ length prefix → Ok n ≡ full_match prefix rest
full_match-whole prefix rest n counted whole = rw (eq-eqb (common_prefix_len nat_eq prefix rest) (length prefix) (sym counted ∙ whole)) (ap Ok counted)

-- it is not
pub full_match-parted : (prefix rest : List ℕ) (n byte : ℕ) (order : Ordering) → n ≡ common_prefix_len nat_eq prefix rest → n ≢ length prefix → byte ≡ get_or prefix n 0 → order ≡ prefix_order prefix rest → Err (record { equal_bytes = n; prefix_byte = byte; order = order }) ≡ full_match prefix rest
full_match-parted prefix rest n byte order counted parted byte_is order_is = elim (eqb_tells (common_prefix_len nat_eq prefix rest) (length prefix)) [
  | inl same ↦ absurd (parted (counted ∙ same.1))
  | inr differ ↦ rw differ.0 (rw (counted, byte_is, order_is) (ap (λ m. Err (record { equal_bytes = common_prefix_len nat_eq prefix rest; prefix_byte = get_or prefix m 0; order = prefix_order prefix rest })) counted))
]

prefix_order-take : (prefix rest : List ℕ) → prefix_order prefix rest ≡ text_order prefix (take (length prefix) rest)
prefix_order-take prefix rest = ap (text_order prefix) (take_min (length prefix) rest)

-- a prefix that is not matched is not equal to the part of the rest beside it
pub prefix_order-parted : (prefix rest : List ℕ) → common_prefix_len nat_eq prefix rest ≢ length prefix → prefix_order prefix rest ≢ Equal
prefix_order-parted prefix rest parted equal = parted (matched_where_equal prefix rest (sym (prefix_order-take prefix rest) ∙ equal))

-- a text with this path and prefix lies on the prefix's side of a key with this path
text-side : (path prefix text key : List ℕ) (depth : ℕ) (order : Ordering) → IsPrefixOf (path ++ prefix) text → IsPrefixOf path key → length path ≡ depth → order ≢ Equal → order ≡ prefix_order prefix (drop depth key) → text_order text key ≡ order
text-side path prefix text key depth order (s, text_is) (r, key_is) deep parted is =
    let rest : drop depth key ≡ r = ap (drop depth) key_is ∙ drop_at path r depth deep in
    let carried : text_order (prefix ++ s) r ≡ order = text_order-carried prefix s r order parted (sym (prefix_order-take prefix r) ∙ ap (prefix_order prefix) (sym rest) ∙ sym is) in
    ap (λ t. text_order t key) (text_is ∙ append_assoc path prefix s) ∙ ap (text_order (path ++ (prefix ++ s))) key_is ∙ text_order-append path (prefix ++ s) r ∙ carried

lie-on : (order : Ordering) (key : List ℕ) (texts : List (List ℕ)) → order ≢ Equal → All (λ text. text_order text key ≡ order) texts → LieOnSide order key texts
lie-on Less key texts parted all = all
lie-on Equal key texts parted all = absurd (parted refl)
lie-on Greater key texts parted all = all

-- so do all of them
pub texts-side : (path prefix key : List ℕ) (texts : List (List ℕ)) (depth : ℕ) (order : Ordering) → All (IsPrefixOf (path ++ prefix)) texts → IsPrefixOf path key → length path ≡ depth → order ≢ Equal → order ≡ prefix_order prefix (drop depth key) → LieOnSide order key texts
texts-side path prefix key texts depth order begin begins deep parted is =
    lie-on order key texts parted (All-weaker (IsPrefixOf (path ++ prefix)) (λ text. text_order text key ≡ order) (λ text front. text-side path prefix text key depth order front begins deep parted is) texts begin)

-- a key with this path whose rest begins with the prefix begins with both
pub key-begins : (path prefix key : List ℕ) (depth : ℕ) → IsPrefixOf path key → length path ≡ depth → common_prefix_len nat_eq prefix (drop depth key) ≡ length prefix → IsPrefixOf (path ++ prefix) key
key-begins path prefix key depth (r, key_is) deep whole =
    let front = prefix-matched prefix (drop depth key) whole in
    let rest : drop depth key ≡ r = ap (drop depth) key_is ∙ drop_at path r depth deep in
    (front.0, key_is ∙ ap (λ z. path ++ z) (sym rest ∙ front.1) ∙ sym (append_assoc path prefix front.0))

-- the rest of a key is the part of it from a depth on
pub counted_in_rest : (prefix key : List ℕ) (depth n : ℕ) → n ≡ common_prefix_len nat_eq prefix (take (length key - depth) (drop depth key)) → n ≡ common_prefix_len nat_eq prefix (drop depth key)
counted_in_rest prefix key depth n counted = counted ∙ ap (common_prefix_len nat_eq prefix) (take_rest key depth)

pub order_in_rest : (prefix key : List ℕ) (depth n : ℕ) (order : Ordering) → n ≡ min (length prefix) (length (take (length key - depth) (drop depth key))) → order ≡ text_order prefix (take n (take (length key - depth) (drop depth key))) → order ≡ prefix_order prefix (drop depth key)
order_in_rest prefix key depth n order shorter compared =
    compared ∙ ap (λ m. text_order prefix (take m (take (length key - depth) (drop depth key)))) shorter ∙ ap (prefix_order prefix) (take_rest key depth)

-- Escaped texts read back, keep the order of the bytes, and are no prefixes of each other. No public clause cites this.
use Rattle.std.specs.Prelude.{◌≡◌, ◌↔◌, ℕ, zero, suc, List, [], ◌∷◌, ◌++◌, refl}
use Rattle.std.specs.Cmp.{nat_cmp_is}
use Rattle.std.specs.Ordering.{nat_cmp, ordering_then}
use Rattle.std.specs.declared.cmp.Ordering.{Ordering}
use Rattle.std.specs.declared.cmp.Ordering.TheVariants.{Less, Greater}
use Rattle.std.proofs.Common.{sym, ap, ◌∙◌, arith, append_assoc}
use Rattle.std.proofs.lemmas.List.{append-nil}
use Rattle.std.proofs.lemmas.Grind.{flat_map-append}
use Rattle.std.proofs.Math.Logic.{∥∥₁_elim}
use Rattle.std.proofs.Props.{props}
use Rattle.art_bytes.specs.Text.{IsPrefixOf, text_order}
use Rattle.art_mapped.specs.Escaped.{escape, escaped, escaped_text, IsEscaped}

-- the escaped text of bytes in two parts
pub escaped_text-append : (front last : List ℕ) → escaped_text (front ++ last) ≡ escaped front ++ escaped_text last
escaped_text-append front last = ap (λ text. text ++ 0 ∷ 0 ∷ []) (flat_map-append escape front last) ∙ append_assoc (escaped front) (escaped last) (0 ∷ 0 ∷ [])

-- zero is less than any other byte
zero_first : (b : ℕ) (later : Ordering) → Less ≡ ordering_then (nat_cmp 0 (suc b)) later
zero_first b later = ap (λ (first : Ordering). ordering_then first later) (nat_cmp_is 0 (suc b) Less (omega arith))

zero_second : (b : ℕ) (later : Ordering) → Greater ≡ ordering_then (nat_cmp (suc b) 0) later
zero_second b later = ap (λ (first : Ordering). ordering_then first later) (nat_cmp_is (suc b) 0 Greater (omega arith))

-- the order is that of the bytes
pub escaped_order : (xs ys : List ℕ) → text_order xs ys ≡ text_order (escaped_text xs) (escaped_text ys)
escaped_order [] [] = refl
escaped_order [] (zero ∷ ys) = refl
escaped_order [] (suc y ∷ ys) = zero_first y _
escaped_order (zero ∷ xs) [] = refl
escaped_order (suc x ∷ xs) [] = zero_second x _
escaped_order (zero ∷ xs) (zero ∷ ys) = escaped_order xs ys
escaped_order (zero ∷ xs) (suc y ∷ ys) = sym (zero_first y _) ∙ zero_first y _
escaped_order (suc x ∷ xs) (zero ∷ ys) = sym (zero_second x _) ∙ zero_second x _
escaped_order (suc x ∷ xs) (suc y ∷ ys) = ap (ordering_then (nat_cmp (suc x) (suc y))) (escaped_order xs ys)

-- an escaped text that begins as escaped bytes is that of bytes that begin so, and its rest is that of the others
pub escaped_apart : (front bytes rest : List ℕ) → escaped_text bytes ≡ escaped front ++ rest → (last : List ℕ) × (bytes ≡ front ++ last) × (rest ≡ escaped_text last)
escaped_apart [] bytes rest same = (bytes, refl, sym same)
escaped_apart (zero ∷ front) [] rest same = absurd (let clash : ◌≡◌ {A = ℕ} 0 255 = cc in omega (arith, clash))
escaped_apart (suc f ∷ front) [] rest same = absurd (let clash : 0 ≡ suc f = cc in omega (arith, clash))
escaped_apart (zero ∷ front) (zero ∷ bytes) rest same =
    let later : escaped_text bytes ≡ escaped front ++ rest = cc in
    let apart = escaped_apart front bytes rest later in
    let begins : bytes ≡ front ++ apart.0 = apart.1 in
    (apart.0, rw (← begins) refl, apart.2)
escaped_apart (zero ∷ front) (suc b ∷ bytes) rest same = absurd (let clash : suc b ≡ 0 = cc in omega (arith, clash))
escaped_apart (suc f ∷ front) (zero ∷ bytes) rest same = absurd (let clash : 0 ≡ suc f = cc in omega (arith, clash))
escaped_apart (suc f ∷ front) (suc b ∷ bytes) rest same =
    let first : suc b ≡ suc f = cc in
    let later : escaped_text bytes ≡ escaped front ++ rest = cc in
    let apart = escaped_apart front bytes rest later in
    let begins : bytes ≡ front ++ apart.0 = apart.1 in
    (apart.0, rw (first, ← begins) refl, apart.2)

-- two zeros with no escape are the end
pub escaped_end : (bytes rest : List ℕ) → 0 ∷ 0 ∷ rest ≡ escaped_text bytes → (bytes ≡ []) × (rest ≡ [])
escaped_end [] rest same = (refl, cc)
escaped_end (zero ∷ bytes) rest same = absurd (let clash : ◌≡◌ {A = ℕ} 0 255 = cc in omega (arith, clash))
escaped_end (suc b ∷ bytes) rest same = absurd (let clash : 0 ≡ suc b = cc in omega (arith, clash))

-- where one escaped text is a prefix of another, the bytes are equal
pub escaped_front : (xs ys rest : List ℕ) → escaped_text ys ≡ escaped_text xs ++ rest → ys ≡ xs
escaped_front xs ys rest same =
    let apart = escaped_apart xs ys (0 ∷ 0 ∷ rest) (same ∙ append_assoc (escaped xs) (0 ∷ 0 ∷ []) rest) in
    apart.1 ∙ ap (λ last. xs ++ last) (escaped_end apart.0 rest apart.2).0 ∙ append-nil xs

-- bytes with the same escaped text are equal
pub same_from_escaped : (xs ys : List ℕ) {text : List ℕ} → text ≡ escaped_text xs → text ≡ escaped_text ys → xs ≡ ys
same_from_escaped xs ys x_text y_text = sym (escaped_front xs ys [] (sym y_text ∙ x_text ∙ sym (append-nil (escaped_text xs))))

-- no escaped text is a proper prefix of another
pub escaped_prefix_is_whole : (xs ys : List ℕ) → IsPrefixOf (escaped_text xs) (escaped_text ys) → escaped_text xs ≡ escaped_text ys
escaped_prefix_is_whole xs ys front = ap escaped_text (sym (escaped_front xs ys front.0 front.1))

pub escaped_text_is_whole : (a b : List ℕ) → IsEscaped a → IsEscaped b → IsPrefixOf a b → a ≡ b
escaped_text_is_whole a b a_is b_is front =
    ∥∥₁_elim a_is (hlevel props) (λ x. ∥∥₁_elim b_is (hlevel props) (λ y.
    x.1 ∙ escaped_prefix_is_whole x.0 y.0 (rw (x.1, y.1) at front) ∙ sym y.1))

-- escaped bytes are a prefix of an escaped text exactly where the bytes are one of its bytes
pub escaped_prefix_exactly : (front bytes : List ℕ) → IsPrefixOf (escaped front) (escaped_text bytes) ↔ IsPrefixOf front bytes
escaped_prefix_exactly front bytes = (
  λ is. let apart = escaped_apart front bytes is.0 is.1 in (apart.0, apart.1),
  λ is. (escaped_text is.0, ap escaped_text is.1 ∙ escaped_text-append front is.0),
)

-- How texts that begin alike compare.
use Rattle.std.proofs.Common.{◌≡◌, ◌∙◌, ℕ, ◌<◌, true, List, [], ◌∷◌, ◌++◌, refl, sym, ap, append_assoc, append-nil}
use Rattle.std.specs.Cmp.{nat_cmp_is}
use Rattle.std.specs.Ordering.{is_le, nat_cmp, ordering_then}
use Rattle.std.specs.declared.cmp.Ordering.TheVariants.{Less, Equal, Greater}
use Rattle.art_bytes.specs.Text.{IsPrefixOf, text_order}

-- after the same path what follows decides
pub order-under : (path a b : List ℕ) → text_order (path ++ a) (path ++ b) ≡ text_order a b
order-under [] a b = refl
order-under (x ∷ path) a b = ap (λ o. ordering_then o (text_order (path ++ a) (path ++ b))) (sym (nat_cmp_is x x Equal refl)) ∙ order-under path a b

-- a text that begins with a longer prefix, as it has it
opened : (path : List ℕ) (byte : ℕ) (text : List ℕ) (front : IsPrefixOf (path ++ byte ∷ []) text) → text ≡ path ++ byte ∷ front.0
opened path byte text front = front.1 ∙ append_assoc path (byte ∷ []) front.0

module _ (path : List ℕ) (a b : ℕ) (y x : List ℕ) (in_y : IsPrefixOf (path ++ a ∷ []) y) (in_x : IsPrefixOf (path ++ b ∷ []) x) where
  at-bytes : text_order y x ≡ ordering_then (nat_cmp a b) (text_order in_y.0 in_x.0)
  at-bytes = (λ i. text_order (opened path a y in_y i) (opened path b x in_x i)) ∙ order-under path (a ∷ in_y.0) (b ∷ in_x.0)

  -- a lesser byte is decisive, and so is a greater one
  pub lesser-byte : a < b → text_order y x ≡ Less
  lesser-byte less = at-bytes ∙ ap (λ o. ordering_then o (text_order in_y.0 in_x.0)) (sym (nat_cmp_is a b Less less))

  pub greater-byte : b < a → text_order y x ≡ Greater
  greater-byte more = at-bytes ∙ ap (λ o. ordering_then o (text_order in_y.0 in_x.0)) (sym (nat_cmp_is a b Greater more))

-- a text that goes on after another is above it
pub longer-above : (x : List ℕ) (byte : ℕ) (y : List ℕ) → IsPrefixOf (x ++ byte ∷ []) y → text_order y x ≡ Greater
longer-above x byte y in_y =
    (λ i. text_order (opened x byte y in_y i) (sym (append-nil x) i)) ∙ order-under x (byte ∷ in_y.0) []

-- a prefix of a text is not above it
pub prefix-low : (y x : List ℕ) → IsPrefixOf y x → is_le (text_order y x) ≡ true
prefix-low y x (rest, is) = ap is_le ((λ i. text_order (sym (append-nil y) i) (is i)) ∙ order-under y [] rest) ∙ by_rest rest
  where
    by_rest : (rest : List ℕ) → is_le (text_order [] rest) ≡ true
    by_rest [] = refl
    by_rest (b ∷ rest) = refl

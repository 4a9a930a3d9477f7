-- Laws of prefixes of byte lists, for proofs in crates above.
use Rattle.std.proofs.Common.{◌≡◌, ◌∙◌, ℕ, List, [], ◌∷◌, ◌++◌, length, length-append, sym, ap, arith, append_assoc}
use Rattle.std.proofs.lemmas.List.{append-nil}
use Rattle.art_bytes.specs.Text.{IsPrefixOf}

-- a list is a prefix of itself
pub prefix-itself : (a : List ℕ) → IsPrefixOf a a
prefix-itself a = ([], sym (append-nil a))

-- the first part of a prefix of a text is a prefix of the text too
pub prefix-shorter : (a b text : List ℕ) → IsPrefixOf (a ++ b) text → IsPrefixOf a text
prefix-shorter a b text (rest, is) = (b ++ rest, is ∙ append_assoc a b rest)

-- a prefix of a prefix of a text is a prefix of the text
pub prefix-on : (a b c : List ℕ) → IsPrefixOf a b → IsPrefixOf b c → IsPrefixOf a c
prefix-on a b c (r, b_is) (s, c_is) = (r ++ s, c_is ∙ ap (λ z. z ++ s) b_is ∙ append_assoc a r s)

-- two lists that are prefixes of each other are equal
pub prefix-antisym : (a b : List ℕ) → IsPrefixOf a b → IsPrefixOf b a → a ≡ b
prefix-antisym a b (r, b_is) (s, a_is) = none r (omega (arith, ap length b_is, ap length a_is, length-append a r, length-append b s)) b_is
  where
    none : (rest : List ℕ) → length rest ≡ 0 → b ≡ a ++ rest → a ≡ b
    none [] empty is = sym (is ∙ append-nil a)
    none (x ∷ rest) empty is = absurd (omega (arith, empty))

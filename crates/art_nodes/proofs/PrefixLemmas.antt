-- Prefixes: the longest common prefix of two byte lists, and the match of a stored prefix.
use Rattle.std.proofs.Common.{◌≡◌, ℕ, ◌≤◌, nat_eq, List, [], ◌∷◌, ◌++◌, length, refl, sym, ◌∙◌, ap, arith, length-append, Ok, false}
use Rattle.std.specs.List.{common_prefix_len}
use Rattle.art_bytes.specs.Text.{IsPrefixOf}
use Rattle.art_nodes.specs.PrefixMatch.{cheap_match}
use Rattle.std.proofs.lemmas.List.Sums.{common_prefix_len-le}
use Rattle.art_nodes.proofs.ChildMapLemmas.{eq-true, lt-false}

-- a list is the longest common prefix of itself and a longer list
common-append : (front rest : List ℕ) → common_prefix_len nat_eq front (front ++ rest) ≡ length front
common-append [] rest = refl
common-append (x ∷ front) rest = rw (eq-true x x refl) (let behind = common-append front rest in omega (arith, behind))

-- a prefix of the whole length is the whole
whole_prefix : (stored prefix : List ℕ) → IsPrefixOf stored prefix → length prefix ≡ length stored → prefix ≡ stored
whole_prefix [] [] front same = refl
whole_prefix [] (x ∷ prefix) front same = absurd (omega arith)
whole_prefix (x ∷ stored) prefix (rest, is) same =
    let none : length rest ≡ 0 = omega (arith, ap length is, length-append (x ∷ stored) rest) in
    is ∙ behind-none (x ∷ stored) rest none
  where
    behind-none : (xs ys : List ℕ) → length ys ≡ 0 → xs ++ ys ≡ xs
    behind-none [] [] none = refl
    behind-none [] (y ∷ ys) none = absurd (omega arith)
    behind-none (x ∷ xs) ys none = ap (λ rest. x ∷ rest) (behind-none xs ys none)

-- a prefix that is stored whole is the longest common prefix of it and of each rest that begins with it
pub common-whole : (stored prefix rest : List ℕ) → length prefix ≡ length stored → IsPrefixOf stored prefix → IsPrefixOf prefix rest → common_prefix_len nat_eq stored rest ≡ length stored
common-whole stored prefix rest same front (behind, is) =
    let prefix_is : prefix ≡ stored = whole_prefix stored prefix front same in
    ap (common_prefix_len nat_eq stored) (is ∙ ap (λ p. p ++ behind) prefix_is) ∙ common-append stored behind

-- where the whole stored prefix matches, the match reports so
pub whole_match : (room prefix_len : ℕ) (stored rest : List ℕ) (matched : ℕ) → prefix_len ≤ room → matched ≡ common_prefix_len nat_eq stored rest → length stored ≤ matched → cheap_match room prefix_len stored rest ≡ Ok (record { matched_bytes = matched; any_implicit_bytes = false })
whole_match room prefix_len stored rest matched le is all =
    let same : common_prefix_len nat_eq stored rest ≡ length stored = omega (arith, is, (common_prefix_len-le nat_eq stored rest).0) in
    rw (lt-false room prefix_len le, eq-true (common_prefix_len nat_eq stored rest) (length stored) same)
    (ap (λ n. Ok (record { matched_bytes = n; any_implicit_bytes = false })) (sym is))

-- Lemmas behind the laws of the key types. No public clause cites this.
use Rattle.std.specs.Prelude.{◌≡◌, ℕ, List, ◌++◌, length}
use Rattle.std.proofs.Common.{sym, ap, ◌∙◌, arith, length-append}
use Rattle.std.proofs.lemmas.List.{append-nil, nil_from_length}
use Rattle.art_bytes.specs.Text.{IsPrefixOf}

-- of two byte lists of length n none is a proper prefix of the other
pub prefix_of_length : (n : ℕ) (a b : List ℕ) → length a ≡ n → length b ≡ n → IsPrefixOf a b → a ≡ b
prefix_of_length n a b a_long b_long front =
    let none : length front.0 ≡ 0 = omega (arith, length-append a front.0, ap length front.1) in
    sym (front.1 ∙ ap (λ rest. a ++ rest) (nil_from_length front.0 none) ∙ append-nil a)

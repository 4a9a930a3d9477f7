-- The bytes that two texts have in common.
use Rattle.std.proofs.Common.{◌≡◌, ℕ, ◌+◌, ◌<◌, min, nat_eq, drop, get_or, List, length, true, arith}
use Rattle.std.specs.List.{common_prefix_len}
use Rattle.std.proofs.lemmas.List.Sums.{common_prefix_len-drop_yes}
use Rattle.std.proofs.lemmas.Bool.Decides.{nat_tests}

eq-true : (a b : ℕ) → a ≡ b → nat_eq a b ≡ true
eq-true a b h = grind (arith, nat_tests)

-- one more byte in common
pub prefix_more : (a b : List ℕ) (place shorter : ℕ) → place < shorter → shorter ≡ min (length a) (length b) → get_or a place 0 ≡ get_or b place 0
    → place + common_prefix_len nat_eq (drop place a) (drop place b) ≡ place + 1 + common_prefix_len nat_eq (drop (place + 1) a) (drop (place + 1) b)
prefix_more a b place shorter within is same =
    let more = common_prefix_len-drop_yes nat_eq a b place 0 0 (omega (arith, within, is)) (omega (arith, within, is)) (eq-true (get_or a place 0) (get_or b place 0) same) in
    omega (arith, more)

-- Builders: the law of their size, for proofs in crates above.
use Rattle.std.proofs.Common.{◌≡◌, ◌∙◌, ℕ, ◌+◌, ◌-◌, ◌%◌, ◌<◌, ◌^◌, max, sym, ap, subst, arith}
use mir.Syntax.{Ty}
use prog.Memory.{size, align, up, pad}
use prog.Align.{align_size, align_pos, dv→, dv_self, dv_zero, dv_one}

no-pad : (k n : ℕ) → n % k ≡ 0 → pad k n ≡ 0
no-pad k n e = let whole : k - 0 ≡ k = omega arith in ap (λ r. (k - r) % k) e ∙ ap (λ r. r % k) whole ∙ dv→ k k (dv_self k)

up-same : (k n : ℕ) → n % k ≡ 0 → up k n ≡ n
up-same k n e = let none : n + 0 ≡ n = omega arith in ap (λ p. n + p) (no-pad k n e) ∙ none

-- a builder takes no more memory than its node
pub builder_fits : (τ : Ty) → size τ < 2 ^ 63 → up (max (align τ) 1) (up 1 (up (align τ) 0 + size τ) + 0) < 2 ^ 63
builder_fits τ small =
    let start = up-same (align τ) 0 (dv→ (align τ) 0 (dv_zero (align τ))) in
    let field : up (align τ) 0 + size τ ≡ size τ = omega (arith, start) in
    let tail = up-same 1 (size τ) (dv→ 1 (size τ) (dv_one (size τ))) in
    let end : up 1 (size τ) + 0 ≡ size τ = omega (arith, tail) in
    let aligned : max (align τ) 1 ≡ align τ = omega (arith, align_pos τ) in
    let total : up (max (align τ) 1) (up 1 (up (align τ) 0 + size τ) + 0) ≡ size τ =
    ap (λ z. up (max (align τ) 1) (up 1 z + 0)) field ∙ ap (λ z. up (max (align τ) 1) z) end ∙ ap (λ k. up k (size τ)) aligned ∙ up-same (align τ) (size τ) (dv→ (align τ) (size τ) (align_size τ)) in
    let Small : ℕ → Type 0 = λ n. n < 2 ^ 63 in
    subst Small (sym total) small

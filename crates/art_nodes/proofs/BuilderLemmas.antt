-- Builders: the children after a write.
use Rattle.std.proofs.Common.{◌≡◌, ℕ, ◌+◌, ◌<◌, ◌≤◌, length, [], ◌∷◌, suc, All, Option, Some, None, IsNone, refl, sym, subst, arith, if◌then◌else◌}
use Rattle.std.specs.Option.{is_some}
use Rattle.art_nodes.specs.ChildMap.{ChildMap, IsAscending, child_at, key_bytes, with_child}
use Rattle.art_nodes.specs.Builder.{AreWritten}
use Rattle.art_nodes.proofs.ChildMapLemmas.{above-with_child, length-with_child, child_at-later}

counted-up : {H : Type 0} (found : Option H) (before after : ℕ) → after ≡ (if is_some found then before else before + 1) → before ≤ after
counted-up None before after is = omega arith
counted-up (Some child) before after is = omega arith

counted-one : {H : Type 0} (found : Option H) (before after : ℕ) → after ≡ (if is_some found then before else before + 1) → IsNone found → after ≡ before + 1
counted-one None before after is none = is
counted-one (Some child) before after is none = cc

absent-none : {H : Type 0} (children : ChildMap H) (byte : ℕ) → length children ≡ 0 → IsNone (child_at children byte)
absent-none [] byte none = refl
absent-none (x ∷ children) byte none = absurd (omega arith)

module _ {H : Type 0} (children after : ChildMap H) (byte : ℕ) (child : H) (fits : byte < 256) (is : after ≡ with_child children byte child) where
  ascends : IsAscending (key_bytes children) → IsAscending (key_bytes after)
  ascends asc = subst (λ cs. IsAscending (key_bytes cs)) (sym is) (above-with_child 0 byte children child (omega arith) fits asc)

  -- two or more stay two or more
  pub written-more : AreWritten (λ n. 2 ≤ n) children → AreWritten (λ n. 2 ≤ n) after
  written-more was =
      let up = counted-up (child_at children byte) (length children) (length (with_child children byte child)) (length-with_child 0 byte children child was.ascending) in
      record { counted = subst (λ cs. 2 ≤ length cs) (sym is) (omega (arith, up, was.counted)); ascending = ascends was.ascending }

  -- a first one is one
  pub written-first : AreWritten (λ n. n ≡ 0) children → AreWritten (λ n. n ≡ 1) after
  written-first was =
      let up = counted-one (child_at children byte) (length children) (length (with_child children byte child)) (length-with_child 0 byte children child was.ascending) (absent-none children byte was.counted) in
      record { counted = subst (λ cs. length cs ≡ 1) (sym is) (omega (arith, up, was.counted)); ascending = ascends was.ascending }

  -- one and another are two
  pub written-second : AreWritten (λ n. n ≡ 1) children → IsNone (child_at children byte) → AreWritten (λ n. 2 ≤ n) after
  written-second was none =
      let up = counted-one (child_at children byte) (length children) (length (with_child children byte child)) (length-with_child 0 byte children child was.ascending) none in
      record { counted = subst (λ cs. 2 ≤ length cs) (sym is) (omega (arith, up, was.counted)); ascending = ascends was.ascending }

-- a byte above every byte there is not there
pub absent-above : {H : Type 0} (children : ChildMap H) (byte : ℕ) → All (λ b. b < byte) (key_bytes children) → IsNone (child_at children byte)
absent-above [] byte above = refl
absent-above (x ∷ children) byte above =
    let less : x.0 < byte = above 0 0 (omega arith) in
    rw (child_at-later x.0 byte x.1 children (λ e. omega arith)) (absent-above children byte (λ k d below. above (suc k) d (omega arith)))

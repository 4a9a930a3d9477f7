-- What a handle or a view owns, by cases: null, or a box or a `&` that may be compared with null.
use Rattle.std.proofs.Common.{◌≡◌, ℕ, List, [], ◌∷◌, refl, Option, Some, None}
use seplogic.Ra.Ura.{Ura}
use mir.Raw.{raw as bare}
use base.Fml.{Lft, Share, flft}
use base.Logic.{never, fst∗, snd∗, via, guard_i}
use base.Fraction.{full_share}
use contract.Monad.{fact_use}
use types.Logic.{Logic, sem}
use types.Kit.{Item, Goal, Seq, ‵, given, ◌$◌, use1, learn, move, fsplit, feq_l, flt_l}
use denote.RattleType.{RattleType}
use denote.Memory.{lone, shared_of}
use denote.RawPtr.{Ptr, block_ptr, null_ptr, in_a_block, lies_at, Testable}
use Rattle.std.proofs.GlobalToken.{dealloc_token-Testable}
use Rattle.std.specs.Global.{Global}
use Rattle.std_heap.specs.contracts.GlobalAllocator.TheImpl.{ghosts}
use Rattle.std.specs.Box.Ownership.{box_owns}
use denote.Struct.Lending.{lent_at}
use Rattle.art_c.specs.Handles.{owns_behind}
use Rattle.art_c.specs.Views.{sees}

module _ (R : RattleType) (alloc : Global) {M : Type 1} {𝓤 : Ura M} {𝓛 : Logic 𝓤} {K : Type 0} {Γ : List (Item 𝓤)} {G : Goal 𝓤 𝓛.H} where
  pub either_behind : K → (p : Ptr) (held : Option R.Denot) → (held ≡ None → p ≡ null_ptr → Seq K 𝓛 Γ G)
      → ((b o : ℕ) (x : R.Denot) → held ≡ Some x → p ≡ block_ptr b o → Testable (block_ptr b o) → Seq K 𝓛 (‵ (box_owns (ghosts.dealloc_token alloc) R (block_ptr b o) x) ∷ Γ) G)
      → Seq K 𝓛 (‵ (owns_behind R alloc p held) ∷ Γ) G
  either_behind t p None none some = feq_l t (λ null. none refl null)
  either_behind t p (Some x) none some =
      in_a_block t p (λ q. box_owns (ghosts.dealloc_token alloc) R q x) (fst∗ 𝓤 (never 𝓤) (sem 𝓛 (ghosts.dealloc_token alloc (bare (lone R.mir)) null_ptr))) (λ b o is.
      let q = block_ptr b o in let B = sem 𝓛 (box_owns (ghosts.dealloc_token alloc) R q x) in
      use1 𝓛 (given (Testable q) (‵ (box_owns (ghosts.dealloc_token alloc) R q x)))
      (fact_use 𝓤 (Testable q) (via 𝓤 _ (snd∗ 𝓤 (sem 𝓛 (lies_at R full_share q x)) (sem 𝓛 (ghosts.dealloc_token alloc (bare (lone R.mir)) q))) (dealloc_token-Testable 𝓛 alloc (bare (lone R.mir)) q)) (guard_i 𝓤 (Testable q) B)) $
      learn t (λ may. some b o x refl is may))

-- what a view owns, by cases
module _ (R : RattleType) (life : Lft) (share : Share) {M : Type 1} {𝓤 : Ura M} {𝓛 : Logic 𝓤} {K : Type 0} {Γ : List (Item 𝓤)} {G : Goal 𝓤 𝓛.H} where
  pub either_seen : K → (p : Ptr) (seen : Option R.Denot) → (seen ≡ None → p ≡ null_ptr → Seq K 𝓛 (‵ (flft life share) ∷ Γ) G)
      → ((b o : ℕ) (x : R.Denot) → seen ≡ Some x → p ≡ block_ptr b o → Testable p → Seq K 𝓛 (‵ (lent_at R (block_ptr b o) x life) ∷ ‵ (flft life share) ∷ Γ) G)
      → Seq K 𝓛 (‵ (sees R life share p seen) ∷ Γ) G
  either_seen t p None none some = fsplit t $ move t (1 ∷ []) $ feq_l t (λ null. none refl null)
  either_seen t p (Some x) none some =
      fsplit t $ move t (1 ∷ []) $ fsplit t $ flt_l t (λ may. in_a_block t p (λ r. lent_at R r x life) (fst∗ 𝓤 (never 𝓤) (sem 𝓛 (shared_of R x 0 0 life))) (λ b o at. some b o x refl at may))

-- Steps that the walks of loans share.
use Rattle.std.proofs.Common.{◌≡◌, List, [], ◌∷◌}
use lib.Dec.{T}
use seplogic.Ra.Ura.{Ura}
use mir.Syntax.{given as dict_at, Body, skip, seq, assign, block, loop, cond, switch, exit, return, call, call_v, unreachable, lend_static}
use mir.Val.{Val, has_ty, WT}
use base.Fml.{ftrue}
use types.Logic.{Logic}
use types.Kit.{Goal, Seq, Item, ‵}
use denote.RattleType.{RattleType}
use denote.Param.{layout}
use denote.Param.Laws.{Laws}
use Rattle.std.proofs.alloc.Calls.{handle_tells}

-- what an `if` does where its test is false
abbrev pub otherwise : Body → Body
otherwise skip = skip
otherwise (seq x₀ x₁) = skip
otherwise (assign x₀ x₁) = skip
otherwise (block x₀) = skip
otherwise (loop x₀) = skip
otherwise (cond x₀ x₁ x₂) = x₂
otherwise (switch x₀ x₁) = skip
otherwise (exit x₀) = skip
otherwise return = skip
otherwise (call x₀ x₁ x₂) = skip
otherwise (call_v x₀ x₁ x₂ x₃) = skip
otherwise unreachable = skip
otherwise (lend_static x₀ x₁ x₂) = skip

abbrev pub Good : RattleType → Val → Type 0
Good R v = T (has_ty (layout R) v) × WT v

module _ {M : Type 1} {𝓤 : Ura M} {𝓛 : Logic 𝓤} {K : Type 0} {Γ : List (Item 𝓤)} {G : Goal 𝓤 𝓛.H} where
  -- what is owned is one machine value, of its type
  pub tells : K → (R : RattleType) → Laws R → (x : R.Denot) (vs : List Val) → ((v : Val) → vs ≡ v ∷ [] → Good R v → Seq K 𝓛 (‵ (R.own_val x (v ∷ [])) ∷ Γ) G) → Seq K 𝓛 (‵ (R.own_val x vs) ∷ Γ) G
  tells t R L = handle_tells (record { row = R; laws = L; g = record { dealloc_token = λ a τ p. ftrue }; d = dict_at 0; drops = dict_at 0 }) t

-- Lines that are cut in parts: what the parts say, the line says, and nothing else.
use Rattle.std.proofs.Common.{◌≡◌, ℕ, List, [], ◌∷◌, ◌∙◌, length, sym, subst, refl, arith}
use Rattle.std.specs.Prelude.{Result, Ok, Err, OnErr}
use Rattle.program_lines.specs.Lines.{HasNo, IsCutAt}
use Rattle.program_lines.proofs.Cuts.{same_cut, cut_has_one}
use Rattle.art_routes.specs.Networks.{Block}
use Rattle.art_routes.specs.Texts.{SayNetwork}
use Rattle.routes.specs.Lines.{SayRouteTo}

pub empty : (bytes : List ℕ) → length bytes ≡ 0 → bytes ≡ []
empty [] none = refl
empty (byte ∷ bytes) none = absurd (omega (arith, none))

pub no_space : (line : List ℕ) → HasNo 32 line → (network : Block) → SayRouteTo line network → ⊥
no_space line none network (text, next_hop, cut, some, said) =
    cut_has_one 32 text next_hop (subst (HasNo 32) cut.0 none)

module _ (line text next_hop : List ℕ) (is : IsCutAt 32 line text next_hop) where
  pub no_next_hop : length next_hop ≡ 0 → (network : Block) → SayRouteTo line network → ⊥
  no_next_hop none network (other, rest, cut, some, said) =
      let same = same_cut 32 text other next_hop rest is.1 cut.1 (sym is.0 ∙ cut.0) in
      some (sym same.1 ∙ empty next_hop none)

  pub no_network : ((network : Block) → SayNetwork text network → ⊥) → (network : Block) → SayRouteTo line network → ⊥
  no_network none network (other, rest, cut, some, said) =
      let same = same_cut 32 text other next_hop rest is.1 cut.1 (sym is.0 ∙ cut.0) in
      none network (subst (λ t. SayNetwork t network) (sym same.0) said)

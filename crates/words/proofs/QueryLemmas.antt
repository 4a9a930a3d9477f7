-- A line that begins with `?`.
use Rattle.std.proofs.Common.{◌≡◌, ℕ, List, ◌∷◌, ◌++◌, ◌∙◌, sym, ap, arith, subst}
use Rattle.std.specs.Prelude.{Result, Ok, Err, OnErr}
use Rattle.art_bytes.specs.CString.{HasNoZero}
use Rattle.program_lines.specs.Lines.{HasNo, IsCutAt}
use Rattle.program_lines.specs.Numbers.{IsNumber}
use Rattle.program_lines.proofs.Cuts.{same_cut, cut_has_one}
use Rattle.words.specs.declared.query.Query.{Query}
use Rattle.words.specs.declared.query.Query.TheVariants.{Begin, FirstOf, Count, Before, After}
use Rattle.words.specs.Queries.{SayWordQuery, IsFirstOf}

heads : {a b : ℕ} {xs ys : List ℕ} → a ∷ xs ≡ b ∷ ys → a ≡ b
heads same = cc

module _ (rest prefix digits : List ℕ) (is : IsCutAt 32 rest prefix digits) where
  pub says_first : (query : Query) (most : ℕ) (text : List ℕ) → text ≡ prefix → HasNoZero prefix → IsFirstOf query text most → IsNumber digits most → SayWordQuery (63 ∷ rest) query
  says_first (FirstOf given number) most text same none this counted =
      let at : given.now ≡ prefix = this.0 ∙ same in
      (digits, ap (λ bytes. 63 ∷ bytes) is.0 ∙ ap (λ bytes. 63 ∷ bytes ++ 32 ∷ digits) (sym at), (subst HasNoZero (sym at) none, subst (HasNo 32) (sym at) is.1), subst (IsNumber digits) (sym this.1) counted)
  says_first (Begin given) most text same none this counted = absurd this
  says_first (Count given) most text same none this counted = absurd this
  says_first (Before given) most text same none this counted = absurd this
  says_first (After given) most text same none this counted = absurd this

  -- what is no such query is none
  pub says_none : ((most : ℕ) → HasNoZero prefix → IsNumber digits most → ⊥) → (query : Query) → SayWordQuery (63 ∷ rest) query → ⊥
  says_none refused (FirstOf given number) (other, line, (none, no_space), counted) =
      let whole : prefix ++ 32 ∷ digits ≡ given.now ++ 32 ∷ other = sym is.0 ∙ tail_of line in
      let same = same_cut 32 prefix given.now digits other is.1 no_space whole in
      refused number (subst HasNoZero (sym same.0) none) (subst (λ d. IsNumber d number) (sym same.1) counted)
    where
      tail_of : {a : ℕ} {xs ys : List ℕ} → a ∷ xs ≡ a ∷ ys → xs ≡ ys
      tail_of same = cc
  says_none refused (Begin given) (line, (none, no_space)) =
      let bytes : rest ≡ given.now = cc in
      cut_has_one 32 prefix digits (subst (HasNo 32) (sym bytes ∙ is.0) no_space)
  says_none refused (Count given) (line, none) = let head = heads line in absurd (omega (arith, head))
  says_none refused (Before given) (line, none) = let head = heads line in absurd (omega (arith, head))
  says_none refused (After given) (line, none) = let head = heads line in absurd (omega (arith, head))

-- what is so of an error
pub on_err : {X E : Type 0} {P Q : Type 0} (result : Result X E) → (P → Q) → OnErr result P → OnErr result Q
on_err (Ok x) more so = tt
on_err (Err e) more so = more so

pub anyway : {X E : Type 0} {Q : Type 0} (result : Result X E) → Q → OnErr result Q
anyway (Ok x) so = tt
anyway (Err e) so = so

-- No C string is a proper prefix of another. No public clause cites this.
use Rattle.std.specs.Prelude.{◌≡◌, ◌≢◌, ℕ, List, [], ◌∷◌, ◌++◌, refl}
use Rattle.std.proofs.Common.{sym, ap, ◌∙◌}
use Rattle.std.proofs.lemmas.List.Elements.{All-head, All-tail}
use Rattle.std.proofs.Math.Logic.{∥∥₁_elim}
use Rattle.std.proofs.Props.{props}
use Rattle.art_bytes.specs.CString.{HasNoZero, IsCString}
use Rattle.art_bytes.specs.Text.{IsPrefixOf}

-- the zero byte at the end of the prefix is the one at the end of the whole
same_end : (a b rest : List ℕ) → HasNoZero a → HasNoZero b → b ++ 0 ∷ [] ≡ (a ++ 0 ∷ []) ++ rest → a ++ 0 ∷ [] ≡ b ++ 0 ∷ []
same_end [] [] rest a_none b_none whole = refl
same_end [] (y ∷ b) rest a_none b_none whole =
    let is_not : y ≢ 0 = All-head (λ byte. byte ≢ 0) y b b_none in
    let is : y ≡ 0 = cc in
    absurd (is_not is)
same_end (x ∷ a) [] rest a_none b_none whole =
    let is_not : x ≢ 0 = All-head (λ byte. byte ≢ 0) x a a_none in
    let is : x ≡ 0 = cc in
    absurd (is_not is)
same_end (x ∷ a) (y ∷ b) rest a_none b_none whole =
    let first : y ≡ x = cc in
    let later : b ++ 0 ∷ [] ≡ (a ++ 0 ∷ []) ++ rest = cc in
    rw (first, same_end a b rest (All-tail (λ byte. byte ≢ 0) x a a_none) (All-tail (λ byte. byte ≢ 0) y b b_none) later) refl

pub c_string_prefix_is_whole : (a b : List ℕ) → IsCString a → IsCString b → IsPrefixOf a b → a ≡ b
c_string_prefix_is_whole a b a_is b_is front =
    ∥∥₁_elim a_is (hlevel props) (λ x. ∥∥₁_elim b_is (hlevel props) (λ y.
    let whole = sym y.2 ∙ front.1 ∙ ap (λ text. text ++ front.0) x.2 in
    x.2 ∙ same_end x.0 y.0 front.0 x.1 y.1 whole ∙ sym y.2))

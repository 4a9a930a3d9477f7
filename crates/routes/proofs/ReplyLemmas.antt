-- What a run writes, line by line.
use Rattle.std.proofs.Common.{◌≡◌, ◌∙◌, ℕ, List, [], ◌∷◌, ◌++◌, ap, append_assoc}
use Rattle.std.specs.Prelude.{codes, Result, Ok, Err, OnOk}
use Rattle.program_lines.specs.Lines.{line}

-- the line of a reply, written in parts
pub route_line : (old one two new query route : List ℕ) → one ≡ old ++ query → two ≡ one ++ 32 ∷ [] → new ≡ two ++ line route → new ≡ old ++ line (query ++ codes " " ++ route)
route_line old one two new query route first second third = third ∙ ap (λ text. text ++ line route) (second ∙ ap (λ text. text ++ 32 ∷ []) first) ∙ simp append_assoc

pub none_line : (old one new query : List ℕ) → one ≡ old ++ query → new ≡ one ++ line (codes " none") → new ≡ old ++ line (query ++ codes " none")
none_line old one new query first second = second ∙ ap (λ text. text ++ line (codes " none")) first ∙ simp append_assoc

-- what is so of a success
pub on_ok : {X E : Type 0} {P Q : Type 0} (result : Result X E) → (P → Q) → OnOk result P → OnOk result Q
on_ok (Ok x) more so = more so
on_ok (Err e) more so = tt

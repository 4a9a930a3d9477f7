-- The bytes written by several writes in a row.
use Rattle.std.proofs.Common.{◌≡◌, ◌∙◌, ℕ, ◌+◌, ◌-◌, ◌≤◌, List, [], ◌++◌, length, take, drop, ap, subst}
use Rattle.std.specs.Prelude.{Option, None, Some, Result, Ok, Err, IfSome, OnOk, OnErr}
use Rattle.std.proofs.Math.Seq.{take-add, take_all, take-length}
use Rattle.std.specs.Fmt.{WritesText, with_newline}
use Rattle.std.proofs.lemmas.Fmt.{contents_after_writes}
use Rattle.std.specs.Io.KnownBytes.{Keeps, Appends}
use Rattle.std.proofs.KnownBytes.{Appends-trans, Appends-kept}
use Rattle.program_lines.specs.Lines.{line}
use Rattle.program_lines.specs.Programs.{AppendsBeginning}
use Rattle.program_lines.proofs.Parts.{rest_whole}

module _ (old now new : Option (List ℕ)) (text : List ℕ) (done : ℕ) (wrote : Appends old now (take done text)) where
  -- some more of it
  pub appends_more : (count : ℕ) → Appends now new (take count (take (length text - done) (drop done text))) → Appends old new (take (done + count) text)
  appends_more count more =
      let next : Appends now new (take count (drop done text)) = rw rest_whole at more in
      rw take-add (Appends-trans old now new (take done text) (take count (drop done text)) wrote next)

  -- all of it
  pub appends_whole : length text ≤ done → Keeps now new → Appends old new text
  appends_whole far kept =
      let whole : Appends old now text = rw (take_all done text far) at wrote in
      Appends-kept old now new text whole kept

-- the whole is a beginning
pub a_beginning : {T E : Type 0} (old new : Option (List ℕ)) (text : List ℕ) (result : Result T E) → OnOk result (Appends old new text) → OnErr result (AppendsBeginning old new text) → AppendsBeginning old new text
a_beginning old new text (Ok value) whole beginning = (length text, rw take-length whole)
a_beginning old new text (Err error) whole beginning = beginning

-- the line that is put into an empty buffer is written, or its first part is
pub line_told : {B T E : Type 0} (contents : B → List ℕ) (shown : Option (List ℕ)) (empty full : B) (bytes : List ℕ) (old new : Option (List ℕ)) (result : Result T E) → contents empty ≡ [] → WritesText (λ b text b'. contents b' ≡ contents b ++ text) empty (with_newline shown) full → bytes ≡ contents full → OnOk result (Appends old new bytes) → OnErr result (AppendsBeginning old new bytes) → IfSome shown (λ text. AppendsBeginning old new (line text))
line_told contents None empty full bytes old new result none wrote same whole beginning = tt
line_told contents (Some text) empty full bytes old new result none wrote same whole beginning =
    let held : contents full ≡ contents empty ++ line text = contents_after_writes (λ b more b'. contents b' ≡ contents b ++ more) contents (λ _ _ _ h. h) empty (line text) full wrote in
    let out : bytes ≡ line text = same ∙ held ∙ ap (λ start. start ++ line text) none in
    subst (AppendsBeginning old new) out (a_beginning old new bytes result whole beginning)

-- a text that was put into an empty vector is written, or its first part is
pub told_begun : {T E : Type 0} (shown : Option (List ℕ)) (f : List ℕ → List ℕ) (empty told bytes : List ℕ) (old new : Option (List ℕ)) (result : Result T E) → empty ≡ [] → IfSome shown (λ text. told ≡ empty ++ f text) → bytes ≡ told → OnOk result (Appends old new bytes) → OnErr result (AppendsBeginning old new bytes)
    → IfSome shown (λ text. AppendsBeginning old new (f text))
told_begun None f empty told bytes old new result none is same whole beginning = tt
told_begun (Some text) f empty told bytes old new result none is same whole beginning =
    let out : bytes ≡ f text = same ∙ is ∙ ap (λ start. start ++ f text) none in
    subst (AppendsBeginning old new) out (a_beginning old new bytes result whole beginning)

-- What lines say, and what one reply more adds to an output.
use Rattle.std.proofs.Common.{◌≡◌, ◌∙◌, ℕ, ◌+◌, ◌<◌, List, [], ◌∷◌, ◌++◌, All, length, take, get_or, sym, ap, append_assoc, append-nil, add-one}
use Rattle.std.specs.List.{flat_map}
use Rattle.std.proofs.Math.Seq.{take-suc}
use Rattle.std.proofs.lemmas.Grind.{flat_map-append}
use Rattle.std.proofs.lemmas.List.Concat.{flat_map-cons}
use Rattle.std.proofs.lemmas.List.Elements.{All-cons, All-nil}
use Rattle.std.specs.Prelude.{Result, Ok, Err, IfErr}
use Rattle.program_lines.specs.Lines.{SayAll}

-- what holds of an item that a line says holds of all that the lines say
pub all_said : {C : Type 0} (Say : List ℕ → C → Type 0) (P : C → Type 0) → ((line : List ℕ) (item : C) → Say line item → P item) → (lines : List (List ℕ)) (items : List C) → SayAll Say lines items → All P items
all_said Say P each [] [] said = All-nil P
all_said Say P each [] (item ∷ items) said = absurd said
all_said Say P each (line ∷ lines) [] said = absurd said
all_said Say P each (line ∷ lines) (item ∷ items) said = All-cons P item items (each line item said.0) (all_said Say P each lines items said.1)

-- one reply more
pub reply_more : {C : Type 0} (reply : C → List ℕ) (items : List C) (k : ℕ) (d : C) (start output longer : List ℕ) → k < length items → output ≡ start ++ flat_map reply (take k items) → longer ≡ output ++ reply (get_or items k d) → longer ≡ start ++ flat_map reply (take (k + 1) items)
reply_more reply items k d start output longer below before pushed =
    let cut : take (k + 1) items ≡ take k items ++ get_or items k d ∷ [] = rw add-one (take-suc items k d below) in
    let one : flat_map reply (get_or items k d ∷ []) ≡ reply (get_or items k d) = flat_map-cons reply (get_or items k d) [] ∙ append-nil (reply (get_or items k d)) in
    pushed ∙ ap (λ o. o ++ reply (get_or items k d)) before ∙ append_assoc start (flat_map reply (take k items)) (reply (get_or items k d))
    ∙ ap (λ more. start ++ (flat_map reply (take k items) ++ more)) (sym one) ∙ ap (λ more. start ++ more) (sym (flat_map-append reply (take k items) (get_or items k d ∷ [])) ∙ ap (flat_map reply) (sym cut))

-- what follows of an error
pub on_error : {X E : Type 0} {P Q : E → Type 0} (result : Result X E) → IfErr result P → ((error : E) → P error → Q error) → IfErr result Q
on_error (Ok x) so follows = tt
on_error (Err error) so follows = follows error so

use Rattle.std.proofs.Common.{◌≡◌, ◌∙◌, List, ℕ, [], ◌∷◌, ◌++◌, ap, take, append_assoc}
use Rattle.std.specs.Fmt.{decimal}
use Rattle.std.specs.Prelude.{Option, None, Some, IfSome, codes}
use Rattle.std.specs.List.{flat_map}
use Rattle.program_lines.specs.Lines.{line}
use Rattle.program_lines.specs.Messages.{shown_byte}
use Rattle.program_lines.proofs.message.push_message.Goals as goal

-- the pieces of a message, one after another
pieces : (shown : Option (List ℕ)) (old o1 o2 o3 o4 o5 o6 o7 o8 o9 new program source number cut p q r : List ℕ) → p ≡ program → q ≡ source → r ≡ cut → o1 ≡ old ++ p → o2 ≡ o1 ++ codes ": " → o3 ≡ o2 ++ q → o4 ≡ o3 ++ codes ": line " → o5 ≡ o4 ++ number → o6 ≡ o5 ++ codes ": " → IfSome shown (λ text. o7 ≡ o6 ++ text)
    → o8 ≡ o7 ++ codes ": " → o9 ≡ o8 ++ r → new ≡ o9 ++ 10 ∷ [] → IfSome shown (λ text. new ≡ old ++ line (program ++ codes ": " ++ source ++ codes ": line " ++ number ++ codes ": " ++ text ++ codes ": " ++ cut))
pieces None old o1 o2 o3 o4 o5 o6 o7 o8 o9 new program source number cut p q r is_program is_source is_cut e1 e2 e3 e4 e5 e6 e7 e8 e9 e10 = tt
pieces (Some text) old o1 o2 o3 o4 o5 o6 o7 o8 o9 new program source number cut p q r is_program is_source is_cut e1 e2 e3 e4 e5 e6 e7 e8 e9 e10 =
    let first : o1 ≡ old ++ program = e1 ∙ ap (λ t. old ++ t) is_program in
    let second : o2 ≡ (old ++ program) ++ codes ": " = e2 ∙ ap (λ o. o ++ codes ": ") first in
    let third : o3 ≡ ((old ++ program) ++ codes ": ") ++ source = e3 ∙ ap (λ t. o2 ++ t) is_source ∙ ap (λ o. o ++ source) second in
    let fourth : o4 ≡ (((old ++ program) ++ codes ": ") ++ source) ++ codes ": line " = e4 ∙ ap (λ o. o ++ codes ": line ") third in
    let fifth : o5 ≡ ((((old ++ program) ++ codes ": ") ++ source) ++ codes ": line ") ++ number = e5 ∙ ap (λ o. o ++ number) fourth in
    let sixth : o6 ≡ (((((old ++ program) ++ codes ": ") ++ source) ++ codes ": line ") ++ number) ++ codes ": " = e6 ∙ ap (λ o. o ++ codes ": ") fifth in
    let seventh : o7 ≡ ((((((old ++ program) ++ codes ": ") ++ source) ++ codes ": line ") ++ number) ++ codes ": ") ++ text = e7 ∙ ap (λ o. o ++ text) sixth in
    let eighth : o8 ≡ (((((((old ++ program) ++ codes ": ") ++ source) ++ codes ": line ") ++ number) ++ codes ": ") ++ text) ++ codes ": " = e8 ∙ ap (λ o. o ++ codes ": ") seventh in
    let ninth : o9 ≡ ((((((((old ++ program) ++ codes ": ") ++ source) ++ codes ": line ") ++ number) ++ codes ": ") ++ text) ++ codes ": ") ++ cut = e9 ∙ ap (λ t. o8 ++ t) is_cut ∙ ap (λ o. o ++ cut) eighth in
    e10 ∙ ap (λ o. o ++ 10 ∷ []) ninth ∙ simp append_assoc

pub returns-clause-text : goal.returns-clause-text
returns-clause-text g c =
    pieces (g.F.Display.output c.args.fault) c.args.output.now.items _ _ _ _ _ _ _ _ _ c.push.new.self.items c.args.program.now c.args.source.now (decimal c.args.number) (flat_map shown_byte (take 80 c.args.line.now)) c.as_bytes.result.now c.as_bytes-2.result.now (flat_map shown_byte c.first_bytes.result.now) c.as_bytes.ensures.value c.as_bytes-2.ensures.value (ap (flat_map shown_byte) c.first_bytes.ensures) c.in_ok-extend_from_slice.ensures.items c.in_ok-extend_from_slice-2.ensures.items c.in_ok-extend_from_slice-3.ensures.items c.in_ok-extend_from_slice-4.ensures.items c.in_ok-push_decimal.ensures c.in_ok-extend_from_slice-5.ensures.items c.in_ok-push_shown.ensures c.in_ok-extend_from_slice-6.ensures.items c.in_ok-push_escaped.ensures c.in_ok-push.ensures.items

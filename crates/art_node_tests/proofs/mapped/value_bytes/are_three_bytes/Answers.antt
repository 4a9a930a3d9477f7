use Rattle.std.proofs.Common.{[], ◌∷◌, ap}
use Rattle.std.specs.Prelude.{slice_index}
use Rattle.std.proofs.lemmas.List.Elements.{All-head, All-tail}
use Rattle.art_bytes.specs.Text.{IsByte}
use Rattle.art_node_tests.proofs.ByteWidths.{one_byte}
use Rattle.art_node_tests.proofs.mapped.value_bytes.are_three_bytes.Goals as goal

pub returns-clause-length : goal.returns-clause-length
returns-clause-length c = λ yes. c.bytes_of_tuples.ensures.length c.args.bytes.now (c.is_value.ensures.0 yes)

pub returns-clause-value : goal.returns-clause-value
returns-clause-value c = λ p q r are same.
    let byte0 = one_byte p (All-head IsByte p (q ∷ r ∷ []) are) in
    let rest1 = All-tail IsByte p (q ∷ r ∷ []) are in
    let byte1 = one_byte q (All-head IsByte q (r ∷ []) rest1) in
    let rest2 = All-tail IsByte q (r ∷ []) rest1 in
    let byte2 = one_byte r (All-head IsByte r ([]) rest2) in
    let number = c.any_bytes_are_a_value.ensures.unsigned 1 in
    let other_than_zero = c.bytes_of_non_zero_unsigned_integers.ensures.u8 (q ∷ []) byte1 in
    let parts = c.bytes_of_tuples.ensures.parts c.args.bytes.now ((p ∷ [], q ∷ []), r ∷ []) ((byte0.0, byte1.0), byte2.0) same in (
      λ yes zero. other_than_zero.0 (parts.0 (c.is_value.ensures.0 yes)).0.1 (ap (λ byte. byte ∷ []) zero),
      λ not_zero.
          let not_zero_value = other_than_zero.1 (λ zeros. not_zero (ap (λ bytes. slice_index bytes 0) zeros)) in
          c.is_value.ensures.1 (parts.1 ((number (p ∷ []) byte0, not_zero_value), number (r ∷ []) byte2)),
    )

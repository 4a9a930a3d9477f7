use Rattle.std.proofs.Common.{[], ◌∷◌, ap}
use Rattle.std.specs.Prelude.{slice_index}
use Rattle.std.proofs.lemmas.List.Elements.{All-head, All-tail}
use Rattle.art_bytes.specs.Text.{IsByte}
use Rattle.art_node_tests.proofs.ByteWidths.{one_byte}
use Rattle.art_node_tests.proofs.mapped.value_bytes.are_six_bytes.Goals as goal

pub returns-clause-length : goal.returns-clause-length
returns-clause-length c = λ yes. c.bytes_of_tuples.ensures.length c.args.bytes.now (c.is_value.ensures.0 yes)

pub returns-clause-value : goal.returns-clause-value
returns-clause-value c = λ p q r s t u are same.
    let byte0 = one_byte p (All-head IsByte p (q ∷ r ∷ s ∷ t ∷ u ∷ []) are) in
    let rest1 = All-tail IsByte p (q ∷ r ∷ s ∷ t ∷ u ∷ []) are in
    let byte1 = one_byte q (All-head IsByte q (r ∷ s ∷ t ∷ u ∷ []) rest1) in
    let rest2 = All-tail IsByte q (r ∷ s ∷ t ∷ u ∷ []) rest1 in
    let byte2 = one_byte r (All-head IsByte r (s ∷ t ∷ u ∷ []) rest2) in
    let rest3 = All-tail IsByte r (s ∷ t ∷ u ∷ []) rest2 in
    let byte3 = one_byte s (All-head IsByte s (t ∷ u ∷ []) rest3) in
    let rest4 = All-tail IsByte s (t ∷ u ∷ []) rest3 in
    let byte4 = one_byte t (All-head IsByte t (u ∷ []) rest4) in
    let rest5 = All-tail IsByte t (u ∷ []) rest4 in
    let byte5 = one_byte u (All-head IsByte u ([]) rest5) in
    let number = c.any_bytes_are_a_value.ensures.unsigned 1 in
    let other_than_zero = c.bytes_of_non_zero_unsigned_integers.ensures.u8 (u ∷ []) byte5 in
    let parts = c.bytes_of_tuples.ensures.parts c.args.bytes.now (((((p ∷ [], q ∷ []), r ∷ []), s ∷ []), t ∷ []), u ∷ []) (((((byte0.0, byte1.0), byte2.0), byte3.0), byte4.0), byte5.0) same in (
      λ yes zero. other_than_zero.0 (parts.0 (c.is_value.ensures.0 yes)).1 (ap (λ byte. byte ∷ []) zero),
      λ not_zero.
          let not_zero_value = other_than_zero.1 (λ zeros. not_zero (ap (λ bytes. slice_index bytes 0) zeros)) in
          c.is_value.ensures.1 (parts.1 (((((number (p ∷ []) byte0, number (q ∷ []) byte1), number (r ∷ []) byte2), number (s ∷ []) byte3), number (t ∷ []) byte4), not_zero_value)),
    )

use Rattle.std.proofs.Common.{ℕ, ◌<◌, length}
use Rattle.std.specs.Prelude.{slice_index}
use Rattle.art_mapped.specs.Sequences.{part}
use Rattle.art_node_tests.proofs.mapped.value_bytes.are_two_counts.Goals as goal

pub returns : goal.returns
returns c =
    let items = c.args.bytes.now.items in
    let are_bytes : (i : ℕ) → i < length items → slice_index items i < 256 = λ i. c.type_inv.bytes i 0 in
    let law = c.bytes_of_arrays_and_vectors.ensures.array 2 items in
    let number = c.bytes_of_non_zero_unsigned_integers.ensures.u16 in
    let width = c.parts_have_their_widths.ensures.part in (
      λ yes.
          let parts = law.0 (c.is_value.ensures.0 yes) in
          (parts.0, λ k below. (number (part 2 k items) (width 2 2 k items (parts.0, are_bytes) below)).0 (parts.1 k below)),
      λ parts. c.is_value.ensures.1 (law.1 (parts.0, λ k below. (number (part 2 k items) (width 2 2 k items (parts.0, are_bytes) below)).1 (parts.1 k below))),
    )

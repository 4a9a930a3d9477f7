use Rattle.std.proofs.Common.{◌≡◌, ℕ, ◌<◌, ◌*◌, ◌/◌, length, arith}
use Rattle.std.specs.Prelude.{slice_index}
use Rattle.art_mapped.specs.Sequences.{part}
use Rattle.art_node_tests.proofs.mapped.value_bytes.are_ports.Goals as goal

pub returns : goal.returns
returns c =
    let items = c.args.bytes.now.items in
    let are_bytes : (i : ℕ) → i < length items → slice_index items i < 256 = λ i. c.type_inv.bytes i 0 in
    let law = c.bytes_of_arrays_and_vectors.ensures.vector c.args.bytes.now in (
      λ yes. (law.0 (c.is_value.ensures.0 yes)).0,
      λ even.
          let long : length items ≡ length items / 2 * 2 = omega arith in
          c.is_value.ensures.1 (law.1 (
            even,
            λ k below.
                c.any_bytes_are_a_value.ensures.unsigned 2 (part 2 k items) (c.parts_have_their_widths.ensures.part 2 (length items / 2) k items (long, are_bytes) below),
          )),
    )

use Rattle.std.proofs.Common.{◌≡◌, ℕ, ◌<◌, ◌++◌, take, drop, sym, length}
use Rattle.std.specs.Prelude.{slice_index}
use Rattle.std.proofs.lemmas.List.{take-append-drop}
use Rattle.art_node_tests.proofs.mapped.value_bytes.is_host.Goals as goal

pub returns : goal.returns
returns c =
    let bytes = c.args.bytes.now in
    let items = bytes.items in
    let are_bytes : (i : ℕ) → i < length items → slice_index items i < 256 = λ i. c.type_inv.bytes i 0 in
    let law = c.bytes_of_tuples.ensures in
    let widths = c.parts_have_their_widths.ensures in
    let number = c.bytes_of_non_zero_unsigned_integers.ensures.u16 (drop 4 items) in
    let joined : items ≡ take 4 items ++ drop 4 items = sym (take-append-drop 4 items) in (
      λ yes.
          let some = c.is_value.ensures.0 yes in
          let long = law.length bytes some in
          let first = widths.first 4 2 items (long, are_bytes) in
          let last = widths.last 4 2 items (long, are_bytes) in
          let sides = (law.parts bytes (take 4 items, drop 4 items) (first.0, last.0) joined).0 some in
          (long, (number last).0 sides.1),
      λ (long, others).
          let first = widths.first 4 2 items (long, are_bytes) in
          let last = widths.last 4 2 items (long, are_bytes) in
          let address = c.any_bytes_are_a_value.ensures.ipv4 (take 4 items) first in
          c.is_value.ensures.1 ((law.parts bytes (take 4 items, drop 4 items) (first.0, last.0) joined).1 (address, (number last).1 others)),
    )

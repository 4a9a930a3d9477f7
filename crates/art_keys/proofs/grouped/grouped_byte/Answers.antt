use Rattle.std.proofs.Common.{◌+◌, ◌*◌, ◌/◌, ◌%◌, arith, sym, ◌∙◌}
use Rattle.std.proofs.lemmas.List.{get_or_past}
use Rattle.art_keys.specs.GroupLaws.{byte_of_index}
use Rattle.art_keys.proofs.grouped.grouped_byte.Goals as goal

pub overflow_sub-bytes : goal.overflow_sub-bytes
overflow_sub-bytes c = (byte_of_index c.args.index c.args.bytes.now c.requires).begins

pub returns-then-start-place : goal.returns-then-start-place
returns-then-start-place c = sym ((byte_of_index c.args.index c.args.bytes.now c.requires).item (omega arith))

pub returns-else-start-place : goal.returns-else-start-place
returns-else-start-place c =
    sym ((byte_of_index c.args.index c.args.bytes.now c.requires).item (omega arith) ∙ get_or_past c.args.bytes.now (c.args.index / 9 * 8 + c.args.index % 9) 0 (omega arith))

pub returns-else-place-lt8 : goal.returns-else-place-lt8
returns-else-place-lt8 c = omega (arith, c.min.ensures, (byte_of_index c.args.index c.args.bytes.now c.requires).marker (omega arith))

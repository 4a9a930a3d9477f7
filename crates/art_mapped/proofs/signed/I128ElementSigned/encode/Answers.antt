use Rattle.std.specs.Int.{w128}
use Rattle.art_mapped.proofs.Flip.{text_of_flipped}
use Rattle.art_mapped.proofs.signed.I128ElementSigned.encode.Goals as goal

pub returns-clause-text : goal.returns-clause-text
returns-clause-text c = text_of_flipped w128 16 c.cast_unsigned.result c.args.self c.to_be_bytes.result c.ranges.self c.cast_unsigned.ensures c.to_be_bytes.ensures

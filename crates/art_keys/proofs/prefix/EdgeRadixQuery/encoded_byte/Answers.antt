use Rattle.std.proofs.Common.{arith, sym}
use Rattle.art_keys.specs.PrefixLaws.{edge_byte}
use Rattle.art_keys.proofs.prefix.EdgeRadixQuery.encoded_byte.Goals as goal

pub returns : goal.returns
returns g c = sym (edge_byte c.args.self.now c.args._index (omega (arith, c.requires)))

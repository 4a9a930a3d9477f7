use Rattle.std.proofs.Common.{rules, arith, sym}
use Rattle.art_mapped.proofs.ReadBack.{digits-read}
use Rattle.art_mapped.proofs.unsigned.UsizeElementUnsigned.decode.Goals as goal

pub returns-clause-some : goal.returns-clause-some
returns-clause-some c =
    (omega arith, sym (digits-read 7 c.args.bytes c.from_be_bytes.result (search rules) (search rules) c.from_be_bytes.ensures))

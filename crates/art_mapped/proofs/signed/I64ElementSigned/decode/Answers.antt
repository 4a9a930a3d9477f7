use Rattle.std.proofs.Common.{rules}
use Rattle.std.specs.Int.{w64}
use Rattle.art_mapped.proofs.ReadBack.{digits-read}
use Rattle.art_mapped.proofs.Flip.{read_flipped}
use Rattle.art_mapped.proofs.signed.I64ElementSigned.decode.Goals as goal

pub returns-clause-some : goal.returns-clause-some
returns-clause-some c =
    let n = c.from_be_bytes.result in
    read_flipped w64 8 n c.cast_signed.result c.args.bytes c.from_be_bytes.type_inv (search rules) c.cast_signed.ensures (digits-read 7 c.args.bytes n (search rules) (search rules) c.from_be_bytes.ensures)

use Rattle.std.proofs.Common.{arith, sym}
use Rattle.std.proofs.lemmas.List.{get_or_past}
use Rattle.art_keys.proofs.prefix.BoundBytesByteSource.byte_at.Goals as goal

pub returns-else-index-bound_len : goal.returns-else-index-bound_len
returns-else-index-bound_len g c =
    let bound = c.args.self.now.bound in
    let bytes = g.P.PrefixQuery.bound_encoded bound.prefix bound.edge in
    sym (get_or_past bytes c.args.index 0 (omega (arith, c.bound_len.ensures.len, c.if-index-bound_len.false, c.requires)))

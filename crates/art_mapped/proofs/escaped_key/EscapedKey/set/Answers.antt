use Rattle.std.proofs.Common.{sym, subst}
use Rattle.art_mapped.specs.Escaped.{IsEscaped}
use Rattle.art_mapped.proofs.escaped_key.EscapedKey.set.Goals as goal

pub invariant_of-self : goal.invariant_of-self
invariant_of-self c = record { ended = subst IsEscaped (sym c.reserve.ensures.items) c.args.self.now.ended }

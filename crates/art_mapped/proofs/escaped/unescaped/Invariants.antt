use Rattle.std.proofs.Common.{◌≡◌, ◌++◌, drop}
use Rattle.art_mapped.specs.Escaped.{escaped}
use Rattle.art_mapped.proofs.Escapes.{pending}
use Rattle.art_mapped.proofs.escaped.unescaped.Given as goal

abbrev pub invariant-loop-byte : goal.invariant-loop-byte
invariant-loop-byte l = l.text ≡ escaped l.bytes.items ++ pending l.after_zero (drop l.byte-index l.text)

use Rattle.std.proofs.Common.{length}
use Rattle.std.specs.Prelude.{◌↔◌}
use Rattle.art_mapped.specs.EscapedStrings.{IsEscapedUtf8}
use Rattle.art_mapped.proofs.escaped_string.is_escaped_utf8.Given as goal

abbrev pub invariant-loop-rest : goal.invariant-loop-rest
invariant-loop-rest l = IsEscapedUtf8 l.text ↔ IsEscapedUtf8 l.rest

abbrev pub decreases-loop-rest : goal.decreases-loop-rest
decreases-loop-rest l = length l.rest

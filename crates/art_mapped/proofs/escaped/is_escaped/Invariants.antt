use Rattle.std.proofs.Common.{drop}
use Rattle.std.specs.Prelude.{◌↔◌}
use Rattle.art_mapped.specs.Escaped.{IsEscaped}
use Rattle.art_mapped.proofs.Escapes.{pending}
use Rattle.art_mapped.proofs.escaped.is_escaped.Given as goal

abbrev pub invariant-loop-index : goal.invariant-loop-index
invariant-loop-index l = IsEscaped l.text ↔ IsEscaped (pending l.after_zero (drop l.index l.text))

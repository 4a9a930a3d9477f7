use Rattle.art_mapped.proofs.EscapedRuns.{is_escaped_string, stands_for_string}
use Rattle.art_mapped.proofs.escaped_string.EscapedBytesMappingString.is_value.Goals as goal

pub returns : goal.returns
returns c = (
  λ yes. stands_for_string c.args.bytes.now (rw c.deref.ensures.value at (c.is_escaped_utf8.ensures.0 yes)),
  λ some. c.is_escaped_utf8.ensures.1 (rw c.deref.ensures.value (is_escaped_string c.args.bytes.now some)),
)

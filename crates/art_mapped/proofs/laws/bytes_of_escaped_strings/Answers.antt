use Rattle.art_mapped.proofs.Escapes.{escaped_value}
use Rattle.art_mapped.proofs.laws.bytes_of_escaped_strings.Goals as goal

pub returns : goal.returns
returns c = escaped_value

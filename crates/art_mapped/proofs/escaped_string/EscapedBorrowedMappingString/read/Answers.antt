use Rattle.art_mapped.proofs.EscapedRuns.{is_escaped_string}
use Rattle.art_mapped.proofs.escaped_string.EscapedBorrowedMappingString.read.Goals as goal

pub string_of-requires : goal.string_of-requires
string_of-requires c = rw c.deref.ensures.value (is_escaped_string c.args.bytes.now c.requires)

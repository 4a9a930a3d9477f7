use Rattle.std.specs.Prelude.{string_bytes}
use Rattle.std.proofs.Common.{sym, ◌∙◌}
use Rattle.art_mapped.specs.EscapedLaws.{same_from_escaped}
use Rattle.art_mapped.proofs.Answered.{if_ok_both}
use Rattle.art_mapped.proofs.EscapedRuns.{is_escaped_string}
use Rattle.art_mapped.proofs.escaped_string.EscapedBytesMappingString.from_bytes.Goals as goal

pub string_of-requires : goal.string_of-requires
string_of-requires c = rw c.deref.ensures.value (is_escaped_string c.args.bytes c.requires)

pub returns-clause-inverts : goal.returns-clause-inverts
returns-clause-inverts c =
    λ value _ v_text. if_ok_both _ _ _ c.string_of.result c.string_of.ensures c.string_of.ensures (λ read r_text _.
    same_from_escaped (string_bytes read) (string_bytes value) (sym c.deref.ensures.value ∙ r_text) v_text)

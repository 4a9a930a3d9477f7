use Rattle.std.proofs.Common.{rules}
use Rattle.std.proofs.lemmas.List.Elements.{All-from_get_or}
use Rattle.art_bytes.specs.Text.{IsByte}
use Rattle.art_bytes.proofs.bytes.ArrayU8AsBytes.as_bytes.Goals as goal

pub returns-clause-text : goal.returns-clause-text
returns-clause-text g c = search rules

pub returns-clause-bytes : goal.returns-clause-bytes
returns-clause-bytes g c = All-from_get_or IsByte _ 0 (λ i below. search rules)

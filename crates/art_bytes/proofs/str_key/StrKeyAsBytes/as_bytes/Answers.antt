use Rattle.std.proofs.Common.{rules}
use Rattle.std.proofs.lemmas.List.Elements.{All-from_get_or}
use Rattle.art_bytes.specs.Text.{IsByte}
use Rattle.art_bytes.proofs.str_key.StrKeyAsBytes.as_bytes.Goals as goal

pub returns-clause-bytes : goal.returns-clause-bytes
returns-clause-bytes c = All-from_get_or IsByte _ 0 (λ i below. search rules)

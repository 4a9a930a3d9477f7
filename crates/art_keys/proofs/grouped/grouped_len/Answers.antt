use Rattle.std.proofs.Common.{◌≡◌, length, arith, rules, ap}
use Rattle.std.proofs.lemmas.List.Elements.{All-from_get_or}
use Rattle.art_bytes.specs.Text.{IsByte}
use Rattle.art_keys.specs.GroupLaws.{length-grouped_from}
use Rattle.art_keys.proofs.grouped.grouped_len.Goals as goal

pub returns-clause-len : goal.returns-clause-len
returns-clause-len c =
    let same : length c.itself-bytes.result.now ≡ length c.args.bytes.now = ap length c.itself-bytes.ensures in
    omega (arith, same, c.saturating_sub.ensures, length-grouped_from 8 (omega arith) c.args.bytes.now)

pub returns-clause-bytes : goal.returns-clause-bytes
returns-clause-bytes c = All-from_get_or IsByte _ 0 (λ i below. search rules)

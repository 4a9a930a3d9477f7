use Rattle.std.proofs.Common.{◌≡◌, ◌+◌, arith, ap, ◌∙◌}
use Rattle.art_keys.specs.Heads.{head_at}
use Rattle.art_keys.specs.HeadLaws.{head_at_below}
use Rattle.art_keys.specs.Strings.{raised}
use Rattle.art_keys.specs.StringLaws.{raised_are_bytes}
use Rattle.art_keys.specs.Utf8Laws.{utf8_below}
use Rattle.art_keys.proofs.RaisedHeads.{raised_eight}
use Rattle.art_keys.proofs.strings.raised_head.Goals as goal
use Rattle.art_keys.proofs.strings.raised_head.Goals.{After-from_be_bytes-eight}

sum : (c : After-from_be_bytes-eight) → c.from_be_bytes-eight.result + 72340172838076673 ≡ head_at c.args.skip (raised c.args.text.now)
sum c =
    let bytes = c.as_bytes-bytes.result.now in
    let whole : c.from_be_bytes-eight.result + 72340172838076673 ≡ head_at c.args.skip (raised bytes) =
    omega (arith, c.from_be_bytes-eight.ensures, raised_eight bytes c.args.skip c.if-bytes-start.false) in
    whole ∙ ap (λ text. head_at c.args.skip (raised text)) c.as_bytes-bytes.ensures.value

pub overflow_add-result : goal.overflow_add-result
overflow_add-result c =
    omega (arith, sum c, head_at_below c.args.skip (raised c.args.text.now) (raised_are_bytes c.args.text.now (utf8_below c.args.text.now c.utf8.text)))

pub returns : goal.returns
returns c = sum c

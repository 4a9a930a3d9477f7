use Rattle.std.proofs.Common.{arith}
use Rattle.art_keys.specs.StringLaws.{length-raised}
use Rattle.art_keys.specs.Utf8Laws.{utf8_below}
use Rattle.art_keys.proofs.strings.raised_len.Goals as goal

pub returns-clause-len : goal.returns-clause-len
returns-clause-len c = omega (arith, c.saturating_add.ensures, length-raised c.args.text.now)

pub returns-clause-text : goal.returns-clause-text
returns-clause-text c = utf8_below c.args.text.now c.utf8.text

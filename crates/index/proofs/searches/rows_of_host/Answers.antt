use Rattle.std.proofs.Common.{◌∙◌, ◌-◌, ◌^◌, ap}
use Rattle.index.proofs.EntryLemmas.{values_of}
use Rattle.index.proofs.KeyLemmas.{read_key}
use Rattle.index.proofs.RowLemmas.{rows_within}
use Rattle.index.proofs.searches.rows_of_host.Goals as goal

pub returns : goal.returns
returns c =
    ap values_of (c.range.ensures.between c.new.ensures.exhausted)
    ∙ rows_within c.args.index.now c.args.address c.args.from c.args.to _ _ (c.new.ensures.start ∙ read_key c.args.address c.args.from 0 c.ranges.from) (c.new.ensures.end ∙ read_key c.args.address c.args.to (2 ^ 64 - 1) c.ranges.to) c.requires.keyed

use Rattle.std.proofs.Common.{◌∙◌, sym, ap, arith}
use Rattle.std.specs.Ordering.{nat_cmp}
use Rattle.std.proofs.lemmas.Grind.{common_steps}
use Rattle.art_c_maps.specs.Loads.{ascend}
use Rattle.art_c_maps.proofs.LoadLemmas.{keys-zipped, none-held}
use Rattle.art_c_maps.proofs.number_map.NumberMap.load.Goals as goal

pub returns-then-not-numbers_ascend-clause-refusal_due : goal.returns-then-not-numbers_ascend-clause-refusal_due
returns-then-not-numbers_ascend-clause-refusal_due c = (
  none-held c.args.self.now (grind (arith, common_steps, c.if-not-is_empty.false, c.len-is_empty.ensures)),
  sym (c.numbers_ascend.ensures ∙ ap (ascend nat_cmp) (keys-zipped c.args.keys.now c.args.values.now c.min-count.result c.min-count.ensures)) ∙ c.if-not-numbers_ascend.true,
)

pub map_of_numbers-requires : goal.map_of_numbers-requires
map_of_numbers-requires c =
    sym (c.numbers_ascend.ensures ∙ ap (ascend nat_cmp) (keys-zipped c.args.keys.now c.args.values.now c.min-count.result c.min-count.ensures)) ∙ c.if-not-numbers_ascend.false

pub returns-in-Ok-clause-taken : goal.returns-in-Ok-clause-taken
returns-in-Ok-clause-taken c = (
  none-held c.args.self.now (grind (arith, common_steps, c.if-not-is_empty.false, c.len-is_empty.ensures)),
  sym (c.numbers_ascend.ensures ∙ ap (ascend nat_cmp) (keys-zipped c.args.keys.now c.args.values.now c.min-count.result c.min-count.ensures)) ∙ c.if-not-numbers_ascend.false,
)

pub returns-in-Err-clause-refusal_due : goal.returns-in-Err-clause-refusal_due
returns-in-Err-clause-refusal_due c = (
  none-held c.args.self.now (grind (arith, common_steps, c.if-not-is_empty.false, c.len-is_empty.ensures)),
  sym (c.numbers_ascend.ensures ∙ ap (ascend nat_cmp) (keys-zipped c.args.keys.now c.args.values.now c.min-count.result c.min-count.ensures)) ∙ c.if-not-numbers_ascend.false,
)

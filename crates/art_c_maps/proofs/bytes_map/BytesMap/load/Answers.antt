use Rattle.std.proofs.Common.{◌∙◌, take, refl, subst, sym, ap, arith}
use Rattle.std.proofs.lemmas.Grind.{common_steps}
use Rattle.art_bytes.specs.Text.{text_order}
use Rattle.art_c_maps.specs.Loads.{NoneTooLong, SomeTooLong, ascend}
use Rattle.art_c_maps.proofs.LoadLemmas.{keys-wanted, none-held}
use Rattle.art_c_maps.proofs.bytes_map.BytesMap.load.Goals as goal

pub returns-then-not-keys_ascend-clause-refusal_due : goal.returns-then-not-keys_ascend-clause-refusal_due
returns-then-not-keys_ascend-clause-refusal_due c =
    let wanted = keys-wanted c.args.keys.now c.args.ends.now c.args.values.now c.min-count.result (take c.min-count.result c.args.ends.now) c.min-count.ensures refl in (
      none-held c.args.self.now (grind (arith, common_steps, c.if-not-is_empty.false, c.len-is_empty.ensures)),
      sym (c.keys_ascend.ensures ∙ ap (ascend text_order) wanted) ∙ c.if-not-keys_ascend.true,
    )

pub returns-then-some_too_long-clause-refusal_due : goal.returns-then-some_too_long-clause-refusal_due
returns-then-some_too_long-clause-refusal_due c =
    let wanted = keys-wanted c.args.keys.now c.args.ends.now c.args.values.now c.min-count.result (take c.min-count.result c.args.ends.now) c.min-count.ensures refl in (
      none-held c.args.self.now (grind (arith, common_steps, c.if-not-is_empty.false, c.len-is_empty.ensures)),
      sym (c.keys_ascend.ensures ∙ ap (ascend text_order) wanted) ∙ c.if-not-keys_ascend.false,
      subst SomeTooLong wanted (c.some_too_long.ensures.some c.if-some_too_long.true),
    )

pub map_of_bytes-requires : goal.map_of_bytes-requires
map_of_bytes-requires c =
    let wanted = keys-wanted c.args.keys.now c.args.ends.now c.args.values.now c.min-count.result (take c.min-count.result c.args.ends.now) c.min-count.ensures refl in
    sym (c.keys_ascend.ensures ∙ ap (ascend text_order) wanted) ∙ c.if-not-keys_ascend.false

pub returns-in-Ok-clause-taken : goal.returns-in-Ok-clause-taken
returns-in-Ok-clause-taken c =
    let wanted = keys-wanted c.args.keys.now c.args.ends.now c.args.values.now c.min-count.result (take c.min-count.result c.args.ends.now) c.min-count.ensures refl in (
      none-held c.args.self.now (grind (arith, common_steps, c.if-not-is_empty.false, c.len-is_empty.ensures)),
      sym (c.keys_ascend.ensures ∙ ap (ascend text_order) wanted) ∙ c.if-not-keys_ascend.false,
      subst NoneTooLong wanted (c.some_too_long.ensures.none c.if-some_too_long.false),
    )

pub returns-in-Err-clause-refusal_due : goal.returns-in-Err-clause-refusal_due
returns-in-Err-clause-refusal_due c =
    let wanted = keys-wanted c.args.keys.now c.args.ends.now c.args.values.now c.min-count.result (take c.min-count.result c.args.ends.now) c.min-count.ensures refl in (
      none-held c.args.self.now (grind (arith, common_steps, c.if-not-is_empty.false, c.len-is_empty.ensures)),
      sym (c.keys_ascend.ensures ∙ ap (ascend text_order) wanted) ∙ c.if-not-keys_ascend.false,
      subst NoneTooLong wanted (c.some_too_long.ensures.none c.if-some_too_long.false),
    )

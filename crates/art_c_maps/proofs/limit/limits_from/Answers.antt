use Rattle.std.proofs.Common.{◌≡◌, ◌∙◌, true, false, sym, ap}
use Rattle.std.specs.Ordering.{is_gt}
use Rattle.std.specs.Prelude.{not}
use Rattle.art_c_maps.specs.ByteStrings.{bytes_of_string}
use Rattle.art_keys.specs.Prefixes.{prefix_cmp}
use Rattle.art_c_maps.proofs.LimitLemmas.{both-same, from-key, from-start}
use Rattle.art_c_maps.proofs.limit.limits_from.Goals as goal

pub returns-then-is_before : goal.returns-then-is_before
returns-then-is_before c x =
    let tells : is_gt (prefix_cmp c.args.prefix.now c.args.from.now) ≡ true = sym (c.is_gt-is_before.ensures ∙ ap is_gt c.compare_start.ensures) ∙ c.if-is_before.true in
    both-same _ _ _ _ (c.start_of.ensures x) (ap not (c.end_of-end.ensures x))
    ∙ from-start c.args.prefix.now c.args.from.now (bytes_of_string x) c.args.inclusive tells

pub returns : goal.returns
returns c x =
    let tells : is_gt (prefix_cmp c.args.prefix.now c.args.from.now) ≡ false = sym (c.is_gt-is_before.ensures ∙ ap is_gt c.compare_start.ensures) ∙ c.if-is_before.false in
    both-same _ _ _ _ (c.bound_at.ensures.start x) (ap not (c.end_of-end.ensures x))
    ∙ from-key c.args.prefix.now c.args.from.now (bytes_of_string x) c.args.inclusive tells

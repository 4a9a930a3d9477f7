use Rattle.std.proofs.Common.{◌≡◌, ◌∙◌, true, false, sym, ap}
use Rattle.std.specs.Ordering.{is_lt}
use Rattle.std.specs.Prelude.{not}
use Rattle.art_c_maps.specs.ByteStrings.{bytes_of_string}
use Rattle.art_keys.specs.Prefixes.{prefix_cmp}
use Rattle.art_c_maps.proofs.LimitLemmas.{both-same, to-key, to-end}
use Rattle.art_c_maps.proofs.limit.limits_to.Goals as goal

pub returns-then-is_behind : goal.returns-then-is_behind
returns-then-is_behind c x =
    let tells : is_lt (prefix_cmp c.args.prefix.now c.args.from.now) ≡ true = sym (c.is_lt-is_behind.ensures ∙ ap is_lt c.compare_start.ensures) ∙ c.if-is_behind.true in
    both-same _ _ _ _ (c.start_of-start.ensures x) (ap not (c.end_of.ensures x))
    ∙ to-end c.args.prefix.now c.args.from.now (bytes_of_string x) c.args.inclusive tells

pub returns : goal.returns
returns c x =
    let tells : is_lt (prefix_cmp c.args.prefix.now c.args.from.now) ≡ false = sym (c.is_lt-is_behind.ensures ∙ ap is_lt c.compare_start.ensures) ∙ c.if-is_behind.false in
    both-same _ _ _ _ (c.start_of-start.ensures x) (c.bound_at.ensures.end x)
    ∙ to-key c.args.prefix.now c.args.from.now (bytes_of_string x) c.args.inclusive tells

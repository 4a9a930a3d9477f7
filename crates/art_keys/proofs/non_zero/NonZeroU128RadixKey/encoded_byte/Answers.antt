use Rattle.std.proofs.Common.{get_or, ap, ◌∙◌}
use Rattle.art_mapped.specs.Numbers.{digits}
use Rattle.art_keys.proofs.non_zero.NonZeroU128RadixKey.encoded_byte.Goals as goal

pub returns : goal.returns
returns c = c.encoded_byte.ensures ∙ ap (λ n. get_or (digits 16 n) c.args.index 0) c.get-value.ensures.value

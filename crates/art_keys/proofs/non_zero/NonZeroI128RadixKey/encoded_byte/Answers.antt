use Rattle.std.proofs.Common.{SFits, get_or, ap, ◌∙◌, rules}
use Rattle.std.specs.Int.{w128}
use Rattle.std.proofs.lemmas.Int.{to_z-of_z}
use Rattle.art_mapped.specs.Numbers.{signed_text}
use Rattle.art_keys.proofs.non_zero.NonZeroI128RadixKey.encoded_byte.Goals as goal

pub returns : goal.returns
returns c =
    let fits : SFits w128 c.get-value.result = search rules in
    c.encoded_byte.ensures ∙ ap (λ z. get_or (signed_text 16 z) c.args.index 0) (to_z-of_z w128 c.get-value.result fits ∙ c.get-value.ensures.value)

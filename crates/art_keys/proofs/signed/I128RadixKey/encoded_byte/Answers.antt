use Rattle.std.proofs.Common.{SFits, get_or, ap, ◌∙◌, rules}
use Rattle.std.specs.Int.{w128}
use Rattle.std.proofs.lemmas.Int.{to_z-of_z}
use Rattle.art_mapped.specs.Numbers.{signed_text}
use Rattle.art_keys.proofs.signed.I128RadixKey.encoded_byte.Goals as goal

pub returns : goal.returns
returns c =
    let fits : SFits w128 c.args.self.now = search rules in
    ap (λ text. get_or text c.args.index 0) (c.wide_bytes-bytes.ensures ∙ ap (signed_text 16) (to_z-of_z w128 c.args.self.now fits))

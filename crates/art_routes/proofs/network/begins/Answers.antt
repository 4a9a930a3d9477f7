use Rattle.std.proofs.Common.{◌∙◌, ◌-◌, ◌*◌, ◌/◌, ◌^◌, ◌==◌, ◌&&◌, ap, sym}
use Rattle.std.proofs.lemmas.Bool.{eq-eqb}
use Rattle.art_routes.proofs.BitLemmas.{same_cleared}
use Rattle.art_routes.proofs.network.begins.Goals as goal

pub returns-then-other-address : goal.returns-then-other-address
returns-then-other-address c =
    let one = c.args.address in let other = c.args.other in let n = c.args.length in
    let widths = c.if-other-address.true in
    ap (λ x. x == one.bits) c.first_address.ensures
    ∙ ap (λ w. (other.bits / 2 ^ (w - n) * 2 ^ (w - n)) == one.bits) widths
    ∙ same_cleared other.bits one.bits (one.width - n) c.requires.network.none_behind
    ∙ ap (λ w. other.bits / 2 ^ (w - n) == one.bits / 2 ^ (one.width - n)) (sym widths)
    ∙ ap (λ t. t && (other.bits / 2 ^ (other.width - n) == one.bits / 2 ^ (one.width - n))) (sym (eq-eqb other.width one.width widths))

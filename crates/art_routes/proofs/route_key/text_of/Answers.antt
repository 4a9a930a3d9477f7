use Rattle.std.proofs.Common.{◌≡◌, ◌∙◌, ◌+◌, ◌-◌, ◌*◌, ◌/◌, ◌%◌, ◌^◌, ◌<◌, ◌∷◌, length, ap, arith, length-set, refl}
use Rattle.art_routes.specs.KeyLaws.{family_most}
use Rattle.art_routes.specs.Keys.{key_text}
use Rattle.art_routes.specs.Strides.{strides, symbol}
use Rattle.art_routes.proofs.KeyBytes.{last-byte, one-stride}
use Rattle.art_routes.proofs.route_key.text_of.Goals as goal

pub loop-i-init : goal.loop-i-init
unfolding key_text
loop-i-init c =
    let few : c.from-count.result - 0 ≡ c.args.length / 7 = omega arith in
    record { long = refl; written = λ i. c.args.address.width ∷ strides (few i) (c.args.length % 7) (c.left-number.ensures.is i) }

pub loop-i-preserved : goal.loop-i-preserved
loop-i-preserved c =
    let most = family_most c.args.address.width c.requires.family in
    let so_far = c.loop-i.invariant in
    let long = so_far.long in
    let inside : 1 + c.loop-i.i < length c.loop-i.text = omega (arith, most, long) in
    record {
      long = length-set c.loop-i.text (1 + c.loop-i.i) c.symbol.result ∙ long;
      written = one-stride c.loop-i.text c.from-count.result (c.args.length % 7) c.loop-i.number (key_text (record { address = c.args.address; length = c.args.length })) c.loop-i.i inside c.loop-i-test.true so_far.written
          c.symbol.result (c.loop-i.number * 2 ^ 7 % 2 ^ 128) c.symbol.ensures refl;
    }

pub returns : goal.returns
returns c =
    let most = family_most c.args.address.width c.requires.family in
    let so_far = c.loop-i.invariant in
    let long = so_far.long in
    let inside : 1 + c.from-count.result < length c.loop-i.text = omega (arith, most, long) in
    let end : c.loop-i.i ≡ c.from-count.result = omega arith in
    let places : c.args.length / 7 + 2 ≡ c.from-count.result + 2 = omega arith in
    record {
      text = last-byte c.loop-i.text c.from-count.result (c.args.length % 7) c.loop-i.number (key_text (record { address = c.args.address; length = c.args.length })) c.loop-i.i (c.args.length / 7 + 2) inside end so_far.written
          c.symbol-2.result (c.symbol-2.ensures ∙ ap (λ bits. symbol bits (c.args.length % 7)) c.first_of.ensures.is) places;
    }

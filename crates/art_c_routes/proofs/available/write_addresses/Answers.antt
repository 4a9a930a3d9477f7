use Rattle.std.proofs.Common.{◌≡◌, ◌∙◌, ◌∷◌, ◌≤◌, ◌*◌, ◌+◌, ◌/◌, ◌++◌, drop, length, min, take, sym, arith}
use Rattle.std.proofs.Math.Nat.{div-mul-le_self, mul-le-mul_right}
use Rattle.std.proofs.lemmas.List.{length-take}
use Rattle.art_c_maps.specs.Buffers.{written}
use Rattle.art_c_maps.proofs.WriteLemmas.{left-behind, none-behind}
use Rattle.art_c_routes.specs.Addresses.{address_bytes}
use Rattle.art_c_routes.proofs.AvailableLemmas.{done-written, more-written}
use Rattle.art_c_routes.proofs.available.write_addresses.Goals as goal

pub loop-index-preserved : goal.loop-index-preserved
loop-index-preserved c =
    let all = c.args.free in let rest = c.next.new.self in let k = c.loop-index.index in let so_far = c.loop-index.invariant in
    let w = c.args.width in let size = length c.args.out.now in
    let here : drop k all ≡ c.in-Some.part ∷ rest = sym so_far.left ∙ c.in-Some.ensures.steps in
    let behind = left-behind all k c.in-Some.part rest here in
    let more : (k + 1) * w ≤ size / w * w = mul-le-mul_right w (omega (arith, c.loop-index-test.true)) in
    let fits : (k + 1) * w ≤ size = omega (arith, more, div-mul-le_self size w) in record {
      left = behind.0;
      enough = behind.1;
      out =
          c.write_address_at.ensures
          ∙ (λ i. take (k * w) (so_far.out i) ++ written (address_bytes (c.address.ensures i)) (drop (k * w) (so_far.out i)))
          ∙ more-written w all c.args.out.now k c.in-Some.part rest c.requires.widths here fits;
    }

pub returns-in-None-clause-count : goal.returns-in-None-clause-count
returns-in-None-clause-count c =
    let most = length c.args.out.now / c.args.width in
    let end = none-behind c.args.free c.loop-index.index (sym c.loop-index.invariant.left ∙ c.in-None.ensures.steps.0) in
    omega (arith, end, c.loop-index.invariant.enough, c.loop-index-test.true, length-take most c.args.free)

pub returns-in-None-clause-addresses : goal.returns-in-None-clause-addresses
returns-in-None-clause-addresses c =
    let most = length c.args.out.now / c.args.width in
    let end = none-behind c.args.free c.loop-index.index (sym c.loop-index.invariant.left ∙ c.in-None.ensures.steps.0) in
    let count : c.loop-index.index ≡ min most (length c.args.free) = omega (arith, end, c.loop-index.invariant.enough, c.loop-index-test.true) in
    c.loop-index.invariant.out ∙ done-written c.args.width c.args.free c.args.out.now c.loop-index.index most c.requires.widths count

use Rattle.std.proofs.Common.{ℕ, ◌<◌, ◌*◌, drop, get_or, length, min, take, subst, arith}
use Rattle.art_c_routes.specs.Addresses.{address_in}
use Rattle.art_c_routes.specs.Found.{IsMatched}
use Rattle.art_c_routes.proofs.ManyLemmas.{left-after, one-more, untouched}
use Rattle.art_c_routes.proofs.number_routes.NumberRoutes.longest_match_many.Goals as goal

pub loop-index-preserved : goal.loop-index-preserved
loop-index-preserved c =
    let routes = c.args.self.now in let width = c.args.width in let k = c.loop-index.index in
    let so_far = c.loop-index.invariant in let found = c.longest_or-length.result in
    let at : ℕ → _ = λ i. address_in (take width (drop (i * width) c.args.addresses.now)) in
    let within : k < min (length c.args.lengths.now) (length c.args.values.now) = omega (arith, c.loop-index-test.true, c.min-count.ensures, c.min.ensures) in
    let next = subst (λ other. IsMatched routes (at k) other found) (untouched c.args.values.now c.loop-index.values k so_far.values)
    (subst (λ address. IsMatched routes address (get_or c.loop-index.values k 0) found) c.address_at.ensures c.longest_or-length.ensures) in
    record {
      matches = one-more (λ i answer. IsMatched routes (at i) (get_or c.args.values.now i 0) answer) c.loop-index.lengths c.loop-index.values k found.0 found.1
          (omega (arith, within, c.loop-index.auto.lengths)) (omega (arith, within, c.loop-index.auto.values)) so_far.matches next;
      lengths = left-after c.args.lengths.now c.loop-index.lengths k so_far.lengths found.0;
      values = left-after c.args.values.now c.loop-index.values k so_far.values found.1;
    }

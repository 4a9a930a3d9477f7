use Rattle.std.proofs.Common.{◌≡◌, ◌∙◌, ◌∷◌, drop, length, min, set, sym, ap, arith}
use Rattle.std.proofs.lemmas.List.{drop-map, length-take}
use Rattle.art_routes.specs.Tables.{route_now}
use Rattle.art_c_maps.specs.Entries.{values_of}
use Rattle.art_c_maps.proofs.WriteLemmas.{all-written, left-behind, none-behind, one-written}
use Rattle.art_c_routes.specs.Found.{lengths_of}
use Rattle.art_c_routes.proofs.number_routes.write_routes.Goals as goal

pub loop-index-preserved : goal.loop-index-preserved
loop-index-preserved c =
    let all = c.args.routes in let rest = c.next.new.self in let k = c.loop-index.index in let so_far = c.loop-index.invariant in
    let route = route_now c.in-Some.route in
    let here : drop k all ≡ route ∷ rest = sym so_far.left ∙ c.in-Some.ensures.steps in
    let behind = left-behind all k route rest here in record {
      left = behind.0;
      enough = behind.1;
      lengths =
          ap (λ n. set c.loop-index.lengths k n) c.length.ensures ∙ ap (λ xs. set xs k route.0.length) so_far.lengths
          ∙ one-written (lengths_of all) c.args.lengths.now k route.0.length (lengths_of rest) (drop-map (λ r. r.0.length) k all ∙ ap lengths_of here) (omega (arith, c.loop-index-test.true, c.min-room.ensures));
      values = ap (λ xs. set xs k route.1) so_far.values ∙ one-written (values_of all) c.args.values.now k route.1 (values_of rest) (drop-map (λ r. r.1) k all ∙ ap values_of here) (omega (arith, c.loop-index-test.true, c.min-room.ensures));
    }

pub returns-in-None-clause-count : goal.returns-in-None-clause-count
returns-in-None-clause-count c =
    let end = none-behind c.args.routes c.loop-index.index (sym c.loop-index.invariant.left ∙ c.in-None.ensures.steps.0) in
    let long = length-take (min (length c.args.lengths.now) (length c.args.values.now)) c.args.routes in
    omega (arith, end, c.loop-index.invariant.enough, c.loop-index-test.true, c.min-room.ensures, long)

pub returns-in-None-clause-lengths : goal.returns-in-None-clause-lengths
returns-in-None-clause-lengths c =
    let end = none-behind c.args.routes c.loop-index.index (sym c.loop-index.invariant.left ∙ c.in-None.ensures.steps.0) in
    c.loop-index.invariant.lengths
    ∙ all-written (λ r. r.0.length) c.args.routes c.args.lengths.now (min (length c.args.lengths.now) (length c.args.values.now)) c.loop-index.index (omega (arith, end, c.loop-index.invariant.enough, c.loop-index-test.true, c.min-room.ensures))

pub returns-in-None-clause-values : goal.returns-in-None-clause-values
returns-in-None-clause-values c =
    let end = none-behind c.args.routes c.loop-index.index (sym c.loop-index.invariant.left ∙ c.in-None.ensures.steps.0) in
    c.loop-index.invariant.values
    ∙ all-written (λ r. r.1) c.args.routes c.args.values.now (min (length c.args.lengths.now) (length c.args.values.now)) c.loop-index.index (omega (arith, end, c.loop-index.invariant.enough, c.loop-index-test.true, c.min-room.ensures))

pub returns-clause-lengths : goal.returns-clause-lengths
returns-clause-lengths c =
    c.loop-index.invariant.lengths
    ∙ all-written (λ r. r.0.length) c.args.routes c.args.lengths.now (min (length c.args.lengths.now) (length c.args.values.now)) c.loop-index.index (omega (arith, c.loop-index.invariant.enough, c.loop-index-test.false, c.loop-index.auto.index-end, c.min-room.ensures))

pub returns-clause-values : goal.returns-clause-values
returns-clause-values c =
    c.loop-index.invariant.values
    ∙ all-written (λ r. r.1) c.args.routes c.args.values.now (min (length c.args.lengths.now) (length c.args.values.now)) c.loop-index.index (omega (arith, c.loop-index.invariant.enough, c.loop-index-test.false, c.loop-index.auto.index-end, c.min-room.ensures))

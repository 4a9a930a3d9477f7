use Rattle.std.proofs.Common.{◌≡◌, ◌+◌, ◌-◌, ◌<◌, ◌∙◌, ap, map, take, length, arith}
use Rattle.art_nodes.specs.ChildMap.{table_children}
use Rattle.art_nodes.specs.IndexTable.{index_of}
use Rattle.art_nodes.proofs.IndexTableLemmas.{index_below, index_none, drop_last_place, take_last_place}
use Rattle.art_nodes.proofs.iteration.index_pairs.last_index.Goals as goal

pub returns-in-Some-clause-found : goal.returns-in-Some-clause-found
returns-in-Some-clause-found c = λ byte.
    let places = c.args.places.now in
    let place = c.loop-place.place - 1 in
    let within : place < length places = omega arith in
    let next : c.loop-place.place ≡ place + 1 = omega arith in
    c.loop-place.invariant byte
    ∙ ap (λ n. table_children byte (map index_of (take n places))) next
    ∙ take_last_place byte places place within c.in-Some.index (rw c.in-Some.ensures.1 (index_below _ c.in-Some.ensures.0))

pub loop-place-preserved : goal.loop-place-preserved
loop-place-preserved c = λ byte.
    let places = c.args.places.now in
    let place = c.loop-place.place - 1 in
    let within : place < length places = omega arith in
    let next : c.loop-place.place ≡ place + 1 = omega arith in
    c.loop-place.invariant byte
    ∙ ap (λ n. table_children byte (map index_of (take n places))) next
    ∙ drop_last_place byte places place within (index_none _ (let above = c.in_default.ensures in grind arith))

use Rattle.std.proofs.Common.{inl, refl, subst}
use Rattle.art_bytes.proofs.Cases.{on_err_always}
use Rattle.art_map.specs.Spots.{IsPageSpot}
use Rattle.art_map.proofs.SpotLemmas.{spot-none, spot-some}
use Rattle.art_map.proofs.ValueLemmas.{entered-new}
use Rattle.art_map.proofs.spots.enter.Goals as goal

pub returns-in-Ok-clause-entered : goal.returns-in-Ok-clause-entered
returns-in-Ok-clause-entered g c =
    let cmp = g.K.Ord.cmp in let key = c.args.key in let x = g.K.KeyBytes.encoded key in
    let head = c.args.head.now.entries in let tree = c.args.tree.now in
    inl (
      refl,
      refl,
      spot-some (λ tree. tree.value.arena) x head (cmp key) c.in-Ok.place tree c.find-leaf.result.0
          (subst (λ place. IsPageSpot (cmp key) x head (λ tree. tree.value.arena) tree c.find-leaf.result.0 place) c.in-Ok.is c.find-leaf.ensures),
    )

pub returns-in-Err-clause-entered : goal.returns-in-Err-clause-entered
returns-in-Err-clause-entered g c =
    let cmp = g.K.Ord.cmp in let key = c.args.key in let x = g.K.KeyBytes.encoded key in
    let head = c.args.head.now.entries in let tree = c.args.tree.now in
    let none = spot-none (λ tree. tree.value.arena) x head (cmp key) c.in-Err.place tree c.find-leaf.result.0
    (subst (λ place. IsPageSpot (cmp key) x head (λ tree. tree.value.arena) tree c.find-leaf.result.0 place) c.in-Err.is c.find-leaf.ensures) in
    entered-new cmp key _ (λ (spot : _). spot.more) _ _ c.make.result none c.make.ensures c.enter_new.result c.enter_new.ensures.more c.enter_new.ensures.entries

pub returns-in-Err-clause-absent : goal.returns-in-Err-clause-absent
returns-in-Err-clause-absent g c =
    let cmp = g.K.Ord.cmp in let key = c.args.key in let x = g.K.KeyBytes.encoded key in
    let head = c.args.head.now.entries in let tree = c.args.tree.now in
    on_err_always c.enter_new.result _
    (spot-none (λ tree. tree.value.arena) x head (cmp key) c.in-Err.place tree c.find-leaf.result.0
    (subst (λ place. IsPageSpot (cmp key) x head (λ tree. tree.value.arena) tree c.find-leaf.result.0 place) c.in-Err.is c.find-leaf.ensures))

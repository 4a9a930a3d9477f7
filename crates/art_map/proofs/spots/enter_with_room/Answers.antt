use Rattle.std.proofs.Common.{subst}
use Rattle.art_map.specs.Spots.{IsPageSpot}
use Rattle.art_map.proofs.SpotLemmas.{spot-absent}
use Rattle.art_map.proofs.spots.enter_with_room.Goals as goal

pub unreachable-requires : goal.unreachable-requires
unreachable-requires g c =
    let cmp = g.K.Ord.cmp in let key = c.args.key in let x = g.K.KeyBytes.encoded key in
    let head = c.args.head.now.entries in let tree = c.args.tree.now in
    spot-absent (λ tree. tree.value.arena) x head (cmp key) c.in_default.field-0 tree c.find-leaf.result.0
    (subst (λ place. IsPageSpot (cmp key) x head (λ tree. tree.value.arena) tree c.find-leaf.result.0 place) c.in_default.is c.find-leaf.ensures) c.requires.absent

use Rattle.std.proofs.Common.{sym, subst}
use Rattle.std.specs.BTreeMap.{is_at}
use Rattle.art_map.specs.Pages.{IsMap}
use Rattle.art_map.specs.Trees.{pages_in, pages_of}
use Rattle.art_map.proofs.TakeLemmas.{map-alone}
use Rattle.art_map.proofs.take.take.Goals as goal

pub returns-in-None-clause-map : goal.returns-in-None-clause-map
returns-in-None-clause-map g c =
    let order = g.K.KeyBytes.order in let is_key = g.K.KeyBytes.is_key in let encoded = g.K.KeyBytes.encoded in
    let head = c.args.head.now.entries in let now = c.take_in.new.page.entries in
    let map = subst (λ tree. IsMap order is_key encoded head (pages_in (λ tree. pages_of tree.value.arena) tree)) c.in-None.is c.requires in
    subst (λ tree. IsMap order is_key encoded now (pages_in (λ tree. pages_of tree.value.arena) tree)) (sym c.in-None.is)
    (map-alone order is_key encoded (is_at (g.Q.RadixQuery.compare c.args.query)) head now c.take_in.ensures.entries map)

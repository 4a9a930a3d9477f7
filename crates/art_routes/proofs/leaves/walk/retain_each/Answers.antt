use Rattle.art_routes.proofs.LeafNames.{CalledAtPair, MayVisit, TakesPair, ap, entries_of, on_err_always, option_map, refl, slab_key}
use Rattle.art_routes.specs.Keys.{key_text}
use Rattle.art_routes.proofs.LinkLemmas.{leaf-pointer-fits}
use Rattle.art_routes.proofs.WalkLemmas.{accepted, cut-now, entry-now, fewer-left, rest-now, walking-end, walking-next, walking-start, walking-stopped}
use Rattle.art_routes.proofs.leaves.walk.retain_each.Goals as goal

pub along-init : goal.along-init
along-init g c =
    let arena = c.args.tree.now.arena in
    walking-start key_text (CalledAtPair g.F.FnMut) (TakesPair g.F.FnMut) c.args.f (entries_of key_text arena) arena (option_map slab_key c.first_leaf-at.result) refl c.first_leaf-at.ensures c.requires

pub retain_at-requires : goal.retain_at-requires
retain_at-requires g c =
    let is = c.along.invariant in
    let key = slab_key c.in-Some.leaf in
    let at = ap (option_map slab_key) c.in-Some.is in
    let may : MayVisit key_text (TakesPair g.F.FnMut) c.along.f c.along.tree.arena key = (is.kept, entry-now is key at, rest-now is key at, cut-now is key at, accepted is key at) in
    assumption leaf-pointer-fits

pub returns : goal.returns
returns g c = record { retained = walking-end c.along.invariant (ap (option_map slab_key) c.in_default.is); stopped = tt }

pub along-preserved : goal.along-preserved
along-preserved g c =
    let is = c.along.invariant in
    let key = slab_key c.in-Some.leaf in
    let at = ap (option_map slab_key) c.in-Some.is in
    let made = c.in_ok-at.ensures is.kept (entry-now is key at) (rest-now is key at) (cut-now is key at) in
    walking-next is key at c.retain_at.new.tree.arena made.0 made.1 c.retain_at.new.f made.2 _ made.3

pub along-smaller : goal.along-smaller
along-smaller g c =
    let is = c.along.invariant in
    let key = slab_key c.in-Some.leaf in
    let at = ap (option_map slab_key) c.in-Some.is in
    let made = c.in_ok-at.ensures is.kept (entry-now is key at) (rest-now is key at) (cut-now is key at) in
    fewer-left is key at c.retain_at.new.tree.arena _ _ made.3

pub returns-in_err-at-clause-stopped : goal.returns-in_err-at-clause-stopped
returns-in_err-at-clause-stopped g c =
    let is = c.along.invariant in
    let key = slab_key c.in-Some.leaf in
    let at = ap (option_map slab_key) c.in-Some.is in
    let made = c.in_err-at.ensures is.kept (entry-now is key at) (rest-now is key at) (cut-now is key at) in
    on_err_always c.from_residual.result _ (walking-stopped is key at c.retain_at.new.tree.arena made.0 made.1 c.retain_at.new.f made.2 made.4.0 made.4.1 made.4.2)

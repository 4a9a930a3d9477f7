use Rattle.std.proofs.Common.{◌≤◌, length, ap, subst, arith}
use Rattle.art_nodes.specs.ChildMap.{IsAscending}
use Rattle.art_nodes.specs.Inner.{indirect_room, inner_with}
use Rattle.art_nodes.proofs.SortedLemmas.{key_bytes-zip, length-zip}
use Rattle.art_nodes.proofs.PlaceLemmas.{indirect_from_places, places_children}
use Rattle.art_nodes.proofs.inner_nodes.representations.inner_node_indirect.InnerNodeIndirect.from_ascending.Goals as goal

pub copy_of-requires : goal.copy_of-requires
copy_of-requires g c =
    let fit : length c.args.bytes.now ≤ indirect_room g.row.SIZE = omega (arith, c.requires.sound.fits, length-zip _ _ c.requires.beside) in
    omega (arith, fit)

pub of_places-requires-clause-ascending : goal.of_places-requires-clause-ascending
of_places-requires-clause-ascending g c = subst IsAscending (key_bytes-zip _ _ c.requires.beside) c.requires.sound.ascending

pub of_places-requires-clause-fit : goal.of_places-requires-clause-fit
of_places-requires-clause-fit g c =
    let fit : length c.args.bytes.now ≤ indirect_room g.row.SIZE = omega (arith, c.requires.sound.fits, length-zip _ _ c.requires.beside) in
    omega (arith, fit)

pub invariant_of-result : goal.invariant_of-result
invariant_of-result g c =
    let header = rw c.unwrap.ensures at c.clone.ensures.cases in
    rw (c.copy_of.ensures, c.copy_of-2.ensures, header)
    (indirect_from_places _ _ c.args.header.now c.of_places.result c.args.bytes.now c.args.children.now c.of_places.ensures.all_bytes c.of_places.ensures.pairs c.requires.beside c.requires.counted c.requires.sound)

pub returns : goal.returns
returns g c =
    let bytes = c.args.bytes.now in
    let children = c.args.children.now in
    let header = rw c.unwrap.ensures at c.clone.ensures.cases in
    let ascending = subst IsAscending (key_bytes-zip bytes children c.requires.beside) c.requires.sound.ascending in
    rw (c.copy_of-2.ensures, header)
    (ap (inner_with c.args.header.now) (places_children c.of_places.result bytes c.of_places.ensures.all_bytes ascending c.of_places.ensures.pairs children c.requires.beside))

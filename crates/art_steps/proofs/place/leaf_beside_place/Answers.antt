use Rattle.art_steps.proofs.Names.{◌∙◌, ℕ, List, sym, subst, TreeAt, Tree, Last, Belongs, IsPlaceIn, leaf_pointer, leaf-pointer-fits, slice-fits, spot-fits}
use Rattle.art_steps.specs.declared.place.Place.TheVariants.{Absent, Differs}
use Rattle.art_steps.proofs.PlaceLemmas.SideLemmas.{key-itself, prefix-before}
use Rattle.art_steps.proofs.PlaceLemmas.SidesAround.{begins-next, leads-held, leaf-next, spot-in}
use Rattle.art_steps.proofs.PlaceLemmas.WayPlaces.{spot-tree}
use Rattle.art_steps.proofs.place.leaf_beside_place.Goals as goal

pub returns-in-Present-clause-beside : goal.returns-in-Present-clause-beside
returns-in-Present-clause-beside g c = λ tree key is.
    let at = subst (Belongs tree key) c.in-Present.is is.belongs in
    leaf-next c.args.side tree key c.end_at_key.result (leaf_pointer c.in-Present.leaf) key is.sound at (key-itself c.args.side key ∙ sym c.end_at_key.ensures)

pub returns-in-Present-clause-held : goal.returns-in-Present-clause-held
returns-in-Present-clause-held g c =
    let (tree, key, is) = c.requires in
    leads-held g.K.AsBytes.text c.args.arena.now tree key (leaf_pointer c.in-Present.leaf) key is.stands (subst (Belongs tree key) c.in-Present.is is.belongs)

pub returns-in-Extends-clause-beside : goal.returns-in-Extends-clause-beside
returns-in-Extends-clause-beside g c = λ tree key is.
    let (x, at, longer) = subst (Belongs tree key) c.in-Extends.is is.belongs in
    leaf-next c.args.side tree key Last (leaf_pointer c.in-Extends.leaf) x is.sound at (prefix-before c.args.side x key longer)

pub returns-in-Extends-clause-held : goal.returns-in-Extends-clause-held
returns-in-Extends-clause-held g c =
    let (tree, key, is) = c.requires in
    let (x, at, longer) = subst (Belongs tree key) c.in-Extends.is is.belongs in
    leads-held g.K.AsBytes.text c.args.arena.now tree key (leaf_pointer c.in-Extends.leaf) x is.stands at

pub end_leaf-requires : goal.end_leaf-requires
end_leaf-requires g c =
    let text = g.K.AsBytes.text in
    let arena = c.args.arena.now in
    let (tree, key, is) = c.requires in
    let begins = subst (Belongs tree key) c.in-Begins.is is.belongs in
    let found : TreeAt text arena c.in-Begins.spot.node = spot-tree (spot-in text arena tree key c.in-Begins.spot is.stands is.sound begins.at) in
    assumption (leaf-pointer-fits, slice-fits, spot-fits)

pub returns-in-Begins-clause-beside : goal.returns-in-Begins-clause-beside
returns-in-Begins-clause-beside g c = λ tree key is.
    let text = g.K.AsBytes.text in
    let arena = c.args.arena.now in
    let spot = c.in-Begins.spot in
    let begins = subst (Belongs tree key) c.in-Begins.is is.belongs in
    begins-next text arena tree key spot c.args.side begins c.end_of_begun-end.result (leaf_pointer c.end_leaf.result) is.sound c.end_of_begun-end.ensures
    (c.end_leaf.ensures.at_end (spot-tree (spot-in text arena tree key spot is.stands is.sound begins.at)))

pub leaf_beside_absent-requires : goal.leaf_beside_absent-requires
leaf_beside_absent-requires g c =
    let (tree, key, is) = c.requires in
    let place : (t : Tree _) × (k : List ℕ) × IsPlaceIn g.K.AsBytes.text c.args.arena.now t k (Absent c.in-Absent.spot c.in-Absent.byte) = (tree, key, subst (IsPlaceIn g.K.AsBytes.text c.args.arena.now tree key) c.in-Absent.is is) in
    assumption (leaf-pointer-fits, slice-fits, spot-fits)

pub returns-in-Absent-clause-beside : goal.returns-in-Absent-clause-beside
returns-in-Absent-clause-beside g c = λ tree key is. c.leaf_beside_absent.ensures.beside tree key c.args.side (subst (IsPlaceIn g.K.AsBytes.text c.args.arena.now tree key) c.in-Absent.is is)

pub leaf_beside_mismatch-requires : goal.leaf_beside_mismatch-requires
leaf_beside_mismatch-requires g c =
    let (tree, key, is) = c.requires in
    let place : (t : Tree _) × (k : List ℕ) × IsPlaceIn g.K.AsBytes.text c.args.arena.now t k (Differs c.in-Differs.spot c.in-Differs.mismatch) = (tree, key, subst (IsPlaceIn g.K.AsBytes.text c.args.arena.now tree key) c.in-Differs.is is) in
    assumption (leaf-pointer-fits, slice-fits, spot-fits)

pub returns-in-Differs-clause-beside : goal.returns-in-Differs-clause-beside
returns-in-Differs-clause-beside g c = λ tree key is. c.leaf_beside_mismatch.ensures.beside tree key c.args.side (subst (IsPlaceIn g.K.AsBytes.text c.args.arena.now tree key) c.in-Differs.is is)

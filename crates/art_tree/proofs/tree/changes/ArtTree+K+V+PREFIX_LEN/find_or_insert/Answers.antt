use Rattle.art_tree.proofs.Names.{◌≡◌, None, IfSome, sym, subst, present_leaf, IsPlaceOf, IsPresent, leaf-pointer-fits, place-fits, spot-fits}
use Rattle.art_tree.proofs.InsertLemmas.PlacedEntries.{finds-added, finds-present}
use Rattle.art_tree.proofs.tree.changes.ArtTree+K+V+PREFIX_LEN.find_or_insert.Goals as goal

pub returns-in-Some-clause-found : goal.returns-in-Some-clause-found
returns-in-Some-clause-found g c =
    let text = g.K.AsBytes.text in
    finds-present c.in-Some.leaf (subst (λ o. IfSome o (λ at. IsPresent text c.args.self.now at.1 (text c.args.key))) (sym c.in-Some.ensures) c.place_of-place.ensures.place.present)

pub insert_at-requires : goal.insert_at-requires
insert_at-requires g c =
    let text = g.K.AsBytes.text in
    let place : IsPlaceOf text c.args.self.now (text c.args.key) c.place_of-place.result = c.place_of-place.ensures.place in
    let new : present_leaf c.place_of-place.result ≡ None = sym c.in-None.ensures in
    assumption (leaf-pointer-fits, place-fits, spot-fits)

pub returns-in-None-clause-found : goal.returns-in-None-clause-found
returns-in-None-clause-found g c = finds-added c.make.result c.make.ensures c.insert_at.result c.insert_at.ensures

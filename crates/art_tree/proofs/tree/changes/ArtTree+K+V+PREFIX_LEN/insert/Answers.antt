use Rattle.art_tree.proofs.Names.{◌≡◌, None, IfSome, sym, subst, present_leaf, IsPlaceOf, IsPresent, leaf-pointer-fits, place-fits, spot-fits, err_from_is_err_and}
use Rattle.art_tree.proofs.tree.changes.ArtTree+K+V+PREFIX_LEN.insert.Goals as goal

pub replace-requires : goal.replace-requires
replace-requires g c =
    let text = g.K.AsBytes.text in
    let present : IsPresent text c.args.self.now c.in-Some.leaf (text c.args.key) = subst (λ o. IfSome o (λ at. IsPresent text c.args.self.now at.1 (text c.args.key))) (sym c.in-Some.ensures) c.place_of-place.ensures.place.present in
    assumption (leaf-pointer-fits, place-fits, spot-fits)

pub insert_at-requires : goal.insert_at-requires
insert_at-requires g c =
    let text = g.K.AsBytes.text in
    let place : IsPlaceOf text c.args.self.now (text c.args.key) c.place_of-place.result = c.place_of-place.ensures.place in
    let new : present_leaf c.place_of-place.result ≡ None = sym c.in-None.ensures in
    assumption (leaf-pointer-fits, place-fits, spot-fits)

pub returns-in_err-insert_at-in-None-clause-room_suffices : goal.returns-in_err-insert_at-in-None-clause-room_suffices
returns-in_err-insert_at-in-None-clause-room_suffices g c = λ count has.
    let exit = err_from_is_err_and c.from_residual.result c.from_residual.ensures.1 in
    rw (exit.1, exit.2) (c.in_err-insert_at-in-None.ensures.room_suffices count has)

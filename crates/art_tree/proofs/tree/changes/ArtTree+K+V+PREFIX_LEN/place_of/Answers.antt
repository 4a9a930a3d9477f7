use Rattle.art_tree.proofs.Names.{◌∙◌, ap, sym, subst, Some, IsArt, HasKeys, HasTree, EachTree, Belongs, IsPlaceOf, leaf-pointer-fits, spot-fits}
use Rattle.art_tree.proofs.InsertLemmas.PlacedEntries.{no-place, place-found}
use Rattle.art_tree.proofs.tree.changes.ArtTree+K+V+PREFIX_LEN.place_of.Goals as goal

pub returns-in_err-root-clause-place : goal.returns-in_err-root-clause-place
returns-in_err-root-clause-place g c =
    let text = g.K.AsBytes.text in
    subst (IsPlaceOf text c.args.self.now (text c.args.key.now)) (sym c.from_residual.ensures) (no-place (text c.args.key.now) (ap (λ seen. seen.root) (sym c.self.view_is) ∙ c.in_err-root.was))

pub returns-in_err-root-clause-are_keys : goal.returns-in_err-root-clause-are_keys
returns-in_err-root-clause-are_keys g c = subst (λ seen. HasKeys g.K.AsBytes.text g.K.AsBytes.is_key seen.arena) c.self.view_is c.self.invariant.1

pub find_place-requires : goal.find_place-requires
find_place-requires g c =
    let (tree, alone) = subst (IsArt g.K.AsBytes.text c.self.inside.arena) c.in_ok-root.was c.self.invariant.0 in
    let there : HasTree g.K.AsBytes.text c.self.inside.arena c.in_ok-root.root = (tree, alone.is_tree) in
    assumption (leaf-pointer-fits, spot-fits)

pub returns-clause-place : goal.returns-clause-place
returns-clause-place g c =
    let text = g.K.AsBytes.text in
    let (tree, alone) = subst (IsArt text c.self.inside.arena) c.in_ok-root.was c.self.invariant.0 in
    let each = subst (λ x. EachTree text c.self.inside.arena c.in_ok-root.root (λ tree. Belongs tree x c.find_place.result)) c.as_bytes-text.ensures.text c.find_place.ensures in
    subst (λ seen. IsPlaceOf text seen (text c.args.key.now) (Some (c.in_ok-root.root, c.find_place.result))) c.self.view_is
    (place-found {art = record { arena = c.self.inside.arena; root = c.self.inside.root }} c.in_ok-root.root c.in_ok-root.was tree alone (text c.args.key.now) c.find_place.result each)

pub returns-clause-are_keys : goal.returns-clause-are_keys
returns-clause-are_keys g c = subst (λ seen. HasKeys g.K.AsBytes.text g.K.AsBytes.is_key seen.arena) c.self.view_is c.self.invariant.1

use Rattle.art_tree.proofs.Names.{◌≡◌, None, IfSome, Some, Ok, Err, sym, subst, refl, option_map, IsArt, InsertsNew, Belongs, present_leaf, EachTree, InsertsAt, IsPlaceOf, leaf-pointer-fits, place-fits, spot-fits}
use Rattle.art_tree.proofs.InsertLemmas.PlacedEntries.{added-invariant, added-there, refused-invariant, refused-there}
use Rattle.art_tree.proofs.tree.changes.ArtTree+K+V+PREFIX_LEN.insert_at.Goals as goal

pub insert_new-requires : goal.insert_new-requires
insert_new-requires g c =
    let text = g.K.AsBytes.text in
    let arena = c.self.inside.arena in
    let place = subst (λ seen. IsPlaceOf text seen (text c.args.key) c.args.place) (sym c.self.view_is) c.requires.place in
    let art : IsArt text arena (option_map (λ place. place.0) c.args.place) = subst (IsArt text arena) (sym place.root) c.self.invariant.0 in
    let belongs : IfSome c.args.place (λ place. EachTree text arena place.0 (λ tree. Belongs tree (text c.args.key) place.1)) = place.belongs in
    let new : present_leaf c.args.place ≡ None = c.requires.new in
    assumption (leaf-pointer-fits, place-fits, spot-fits)

pub invariant_of-self : goal.invariant_of-self
invariant_of-self g c =
    let text = g.K.AsBytes.text in
    let place = subst (λ seen. IsPlaceOf text seen (text c.args.key) c.args.place) (sym c.self.view_is) c.requires.place in
    let done = subst (λ root. InsertsNew text c.self.inside.arena c.insert_new.new.arena root c.args.key c.args.value c.insert_new.result) place.root c.insert_new.ensures in
    added-invariant text g.K.AsBytes.is_key (record { arena = c.self.inside.arena; root = c.self.inside.root }) (record { arena = c.insert_new.new.arena; root = Some c.in-Ok.root }) c.self.invariant.0 c.self.invariant.1 c.args.key c.args.value c.in-Ok.root c.in-Ok.leaf refl
    (subst (InsertsNew text c.self.inside.arena c.insert_new.new.arena c.self.inside.root c.args.key c.args.value) c.in-Ok.is done) c.requires.is_key

pub returns-in-Ok : goal.returns-in-Ok
returns-in-Ok g c =
    let text = g.K.AsBytes.text in
    let place = subst (λ seen. IsPlaceOf text seen (text c.args.key) c.args.place) (sym c.self.view_is) c.requires.place in
    let done = subst (λ root. InsertsNew text c.self.inside.arena c.insert_new.new.arena root c.args.key c.args.value c.insert_new.result) place.root c.insert_new.ensures in
    subst (λ seen. InsertsAt text seen (record { arena = c.insert_new.new.arena; root = Some c.in-Ok.root }) c.args.key c.args.value (Ok c.in-Ok.leaf)) c.self.view_is
    (added-there text g.K.AsBytes.is_key (record { arena = c.self.inside.arena; root = c.self.inside.root }) (record { arena = c.insert_new.new.arena; root = Some c.in-Ok.root }) c.self.invariant.0 c.self.invariant.1 c.args.key c.args.value c.in-Ok.root c.in-Ok.leaf refl
    (subst (InsertsNew text c.self.inside.arena c.insert_new.new.arena c.self.inside.root c.args.key c.args.value) c.in-Ok.is done))

pub invariant_of-self-in-Err : goal.invariant_of-self-in-Err
invariant_of-self-in-Err g c =
    let text = g.K.AsBytes.text in
    let place = subst (λ seen. IsPlaceOf text seen (text c.args.key) c.args.place) (sym c.self.view_is) c.requires.place in
    let done = subst (λ root. InsertsNew text c.self.inside.arena c.insert_new.new.arena root c.args.key c.args.value c.insert_new.result) place.root c.insert_new.ensures in
    refused-invariant text g.K.AsBytes.is_key (record { arena = c.self.inside.arena; root = c.self.inside.root }) (record { arena = c.insert_new.new.arena; root = c.self.inside.root }) c.self.invariant.0 c.self.invariant.1 c.args.key c.args.value c.in-Err.fault refl
    (subst (InsertsNew text c.self.inside.arena c.insert_new.new.arena c.self.inside.root c.args.key c.args.value) c.in-Err.is done)

pub returns-in-Err : goal.returns-in-Err
returns-in-Err g c =
    let text = g.K.AsBytes.text in
    let place = subst (λ seen. IsPlaceOf text seen (text c.args.key) c.args.place) (sym c.self.view_is) c.requires.place in
    let done = subst (λ root. InsertsNew text c.self.inside.arena c.insert_new.new.arena root c.args.key c.args.value c.insert_new.result) place.root c.insert_new.ensures in
    subst (λ seen. InsertsAt text seen (record { arena = c.insert_new.new.arena; root = c.self.inside.root }) c.args.key c.args.value (Err c.in-Err.fault)) c.self.view_is
    (refused-there text g.K.AsBytes.is_key (record { arena = c.self.inside.arena; root = c.self.inside.root }) (record { arena = c.insert_new.new.arena; root = c.self.inside.root }) c.self.invariant.0 c.self.invariant.1 c.args.key c.args.value c.in-Err.fault refl
    (subst (InsertsNew text c.self.inside.arena c.insert_new.new.arena c.self.inside.root c.args.key c.args.value) c.in-Err.is done))

use Rattle.art_steps.proofs.Names.{◌≡◌, ◌∙◌, refl, sym, ap, subst, leaf_key, held, TreeAt, leaves, HasLeafText, leaf_pointer, image_inside, leaf-pointer-fits}
use Rattle.art_steps.proofs.InsertLemmas.NodeLemmas.{one-leaf}
use Rattle.art_steps.proofs.PlaceLemmas.TowardLemmas.{toward-text}
use Rattle.art_steps.proofs.SharedLemmas.DictionaryLemmas.{leaf-held-in}
use Rattle.art_steps.proofs.place.text_toward.Goals as goal

pub way-init : goal.way-init
way-init g c = λ found. record { below = found; same = refl }

pub child_toward-requires : goal.child_toward-requires
child_toward-requires g c =
    let here : TreeAt g.K.AsBytes.text c.args.arena.now c.way.at = (c.way.invariant c.requires.tree).below in
    search

pub way-preserved : goal.way-preserved
way-preserved g c = λ found.
    let on = c.way.invariant found in
    let next = c.in-Some.ensures.child on.below in
    record { below = next.0; same = on.same ∙ next.1 }

pub any_leaf-leaf-requires : goal.any_leaf-leaf-requires
any_leaf-leaf-requires g c =
    let here : TreeAt g.K.AsBytes.text c.args.arena.now c.way.at = (c.way.invariant c.requires.tree).below in
    assumption leaf-pointer-fits

pub returns-in-None-clause-direction : goal.returns-in-None-clause-direction
returns-in-None-clause-direction g c = λ found.
    let text = g.K.AsBytes.text in
    let arena = c.args.arena.now in
    let on = c.way.invariant found in
    let leaf = leaf_pointer c.any_leaf-leaf.result in
    let (x, inside) = c.any_leaf-leaf.ensures.leaf on.below in
    let there = leaf-held-in text arena on.below.tree on.below.stands leaf x inside in
    let one = one-leaf (held arena leaf) c.as_ref.result.now there.0 c.as_ref.ensures there.1 in
    let text_is : c.as_bytes.result.now ≡ x = c.as_bytes.ensures.text ∙ ap text c.key_ref.ensures ∙ ap (λ l. text (leaf_key l)) one ∙ there.2 in
    subst (λ tree. HasLeafText tree c.as_bytes.result.now) (sym (on.same ∙ c.in-None.ensures.none on.below))
    (subst (HasLeafText on.below.tree) (sym text_is) (leaf, inside))

pub returns-in-None-clause-leaf : goal.returns-in-None-clause-leaf
returns-in-None-clause-leaf g c = λ found.
    let bytes = c.as_bytes.result.now in
    let toward = returns-in-None-clause-direction g c found in
    let inside = toward-text c.args.rest.now found.tree bytes toward in
    image_inside (λ leaf. leaf.1) (leaves found.tree) (inside.0, bytes) bytes refl inside.1

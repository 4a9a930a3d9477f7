use Rattle.art_steps.proofs.Names.{◌≡◌, ◌≢◌, ◌∙◌, IsNone, refl, sym, subst, node_kind, opaque_key, slab_key, Nothing, held, inner_shown, shown, Tree, at-some, inner-there, IsSpotIn, leaf_pointer, LeafKind, leaf-pointer-fits, slice-fits, spot-fits}
use Rattle.art_steps.proofs.PlaceLemmas.WayPlaces.{spot-held}
use Rattle.art_steps.proofs.place.next_spot.Goals as goal

pub node_ref-requires : goal.node_ref-requires
node_ref-requires g c =
    let (tree, on) = c.requires in
    let there : held c.args.arena.now c.args.spot.node ≢ Nothing = spot-held on.spot_in in
    assumption slice-fits

pub place_at_leaf-requires : goal.place_at_leaf-requires
place_at_leaf-requires g c =
    let (tree, on) = c.requires in
    let spot = c.args.spot in
    let kind : node_kind spot.node ≡ LeafKind = sym c.node_ref.ensures.kind ∙ c.inner.ensures.leaf.0 (subst IsNone (sym c.in_default.is) refl) in
    let at = at-some (λ leaf. slab_key leaf ≡ opaque_key spot.node) c.cast.result c.unwrap.result c.unwrap.ensures c.cast.ensures.key in
    let same : spot.node ≡ leaf_pointer c.unwrap.result = λ i. record { node_type = kind i; key = (sym at) i; leaf = record {} } in
    let is_spot : (tree : Tree _) × IsSpotIn g.K.AsBytes.text c.args.arena.now tree c.args.key.now spot = (tree, on.spot_in) in
    assumption (slice-fits, leaf-pointer-fits, spot-fits)

pub returns-in_default-clause-place : goal.returns-in_default-clause-place
returns-in_default-clause-place g c = λ tree on. c.place_at_leaf.ensures tree on.spot_in

pub next_spot_in-requires : goal.next_spot_in-requires
next_spot_in-requires g c =
    let node = inner_shown c.in-Some.node in
    let holds = c.node_ref.ensures.node ∙ inner-there (shown c.node_ref.result) c.inner.result c.inner.ensures.node c.in-Some.node c.in-Some.is in
    assumption slice-fits

use Rattle.std.proofs.Common.{◌≡◌, ◌≢◌, ◌∙◌, rules, IsNone, refl, sym, subst}
use Rattle.art_header.specs.declared.node_type.NodeType.TheVariants as kinds
use Rattle.art_nodes.specs.Pointers.{node_kind, opaque_key, slab_key}
use Rattle.art_arena.proofs.StandingLaws.{at-some, inner-there}
use Rattle.art_arena.specs.Arena.{HeldInner, Nothing, held}
use Rattle.art_arena.specs.InnerRef.{inner_shown}
use Rattle.art_arena.specs.Reader.{shown}
use Rattle.art_search.specs.Search.{leaf_pointer}
use Rattle.art_index.specs.Descent.{IsBeside, LeadsTo}
use Rattle.art_index.proofs.DescentLemmas.{leads-held}
use Rattle.art_index.proofs.search.next_step.Goals as goal

pub node_ref-requires : goal.node_ref-requires
node_ref-requires g c =
    let (whole, leads) = c.requires in
    let there : held c.args.arena.now c.args.at ≢ Nothing = leads-held g.A.AsBytes.text c.args.arena.now (g.Q.RadixQuery.encoded c.args.query) whole c.args.at c.args.depth leads in
    search rules

pub step_at_leaf-requires : goal.step_at_leaf-requires
step_at_leaf-requires g c =
    let (whole, leads) = c.requires in
    let at = c.args.at in
    let kind : node_kind at ≡ kinds.Leaf = sym c.node_ref.ensures.kind ∙ c.inner.ensures.leaf.0 (subst IsNone (sym c.in_default.is) refl) in
    let key = at-some (λ leaf. slab_key leaf ≡ opaque_key at) c.cast.result c.unwrap.result c.unwrap.ensures c.cast.ensures.key in
    let same : at ≡ leaf_pointer c.unwrap.result = λ i. record { node_type = kind i; key = (sym key) i; leaf = record {} } in
    let there : (whole : _) × LeadsTo g.A.AsBytes.text c.args.arena.now (g.Q.RadixQuery.encoded c.args.query) whole (leaf_pointer c.unwrap.result) c.args.depth =
    (whole, subst (λ p. LeadsTo g.A.AsBytes.text c.args.arena.now (g.Q.RadixQuery.encoded c.args.query) whole p c.args.depth) same leads) in
    search rules

pub returns-in_default-clause-goes : goal.returns-in_default-clause-goes
returns-in_default-clause-goes g c = λ whole leads.
    let x = g.Q.RadixQuery.encoded c.args.query in
    let at = c.args.at in
    let kind : node_kind at ≡ kinds.Leaf = sym c.node_ref.ensures.kind ∙ c.inner.ensures.leaf.0 (subst IsNone (sym c.in_default.is) refl) in
    let key = at-some (λ leaf. slab_key leaf ≡ opaque_key at) c.cast.result c.unwrap.result c.unwrap.ensures c.cast.ensures.key in
    let same : at ≡ leaf_pointer c.unwrap.result = λ i. record { node_type = kind i; key = (sym key) i; leaf = record {} } in
    subst (λ p. IsBeside g.A.AsBytes.text c.args.arena.now x whole p c.step_at_leaf.result) (sym same)
    (c.step_at_leaf.ensures whole (subst (λ p. LeadsTo g.A.AsBytes.text c.args.arena.now x whole p c.args.depth) same leads))

pub step_from_any-requires : goal.step_from_any-requires
step_from_any-requires g c =
    let holds : held c.args.arena.now c.args.at ≡ HeldInner (inner_shown c.in-Some.node) = c.node_ref.ensures.node ∙ inner-there (shown c.node_ref.result) c.inner.result c.inner.ensures.node c.in-Some.node c.in-Some.is in
    search rules

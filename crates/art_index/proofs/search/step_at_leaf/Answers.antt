use Rattle.std.proofs.Common.{◌≡◌, ◌≢◌, ◌∙◌, ◌-◌, rules, ℕ, List, length, length-drop, take, drop, ap, subst, arith}
use Rattle.std.proofs.lemmas.List.{take_rest}
use Rattle.std.specs.declared.cmp.Ordering.TheVariants.{Less, Equal, Greater}
use Rattle.art_nodes.specs.Leaf.{leaf_key}
use Rattle.art_arena.specs.Arena.{held, Nothing}
use Rattle.art_search.specs.Search.{leaf_pointer}
use Rattle.art_index.specs.Descent.{ComparesAs}
use Rattle.art_index.proofs.DescentLemmas.{leads-held, leaf-deep, leaf-equal, leaf-fits, leaf-greater, leaf-less}
use Rattle.art_index.proofs.search.step_at_leaf.Goals as goal

pub as_ref-requires : goal.as_ref-requires
as_ref-requires g c =
    let (whole, leads) = c.requires in
    let there : held c.args.arena.now (leaf_pointer c.args.leaf) ≢ Nothing = leads-held g.A.AsBytes.text c.args.arena.now (g.Q.RadixQuery.encoded c.args.query) whole (leaf_pointer c.args.leaf) c.args.depth leads in
    search rules

pub slice_bounds-rest-start : goal.slice_bounds-rest-start
slice_bounds-rest-start g c =
    let (whole, leads) = c.requires in
    let bytes : c.as_bytes-text.result.now ≡ g.A.AsBytes.text (leaf_key c.as_ref.result.now) = c.as_bytes-text.ensures.text ∙ ap g.A.AsBytes.text c.key_ref.ensures in
    omega (arith, ap length bytes, leaf-deep g.A.AsBytes.text c.args.arena.now (g.Q.RadixQuery.encoded c.args.query) whole (leaf_pointer c.args.leaf) c.as_ref.result.now c.as_ref.ensures c.args.depth leads)

pub slice_bounds-rest-count : goal.slice_bounds-rest-count
slice_bounds-rest-count g c =
    let (whole, leads) = c.requires in
    let bytes : c.as_bytes-text.result.now ≡ g.A.AsBytes.text (leaf_key c.as_ref.result.now) = c.as_bytes-text.ensures.text ∙ ap g.A.AsBytes.text c.key_ref.ensures in
    omega (arith, ap length bytes, leaf-deep g.A.AsBytes.text c.args.arena.now (g.Q.RadixQuery.encoded c.args.query) whole (leaf_pointer c.args.leaf) c.as_ref.result.now c.as_ref.ensures c.args.depth leads)

pub compare_at-requires : goal.compare_at-requires
compare_at-requires g c =
    let (whole, leads) = c.requires in
    let x = g.Q.RadixQuery.encoded c.args.query in
    let bytes : c.as_bytes-text.result.now ≡ g.A.AsBytes.text (leaf_key c.as_ref.result.now) = c.as_bytes-text.ensures.text ∙ ap g.A.AsBytes.text c.key_ref.ensures in
    let deep = leaf-deep g.A.AsBytes.text c.args.arena.now x whole (leaf_pointer c.args.leaf) c.as_ref.result.now c.as_ref.ensures c.args.depth leads in
    let fits = leaf-fits g.A.AsBytes.text c.args.arena.now x whole (leaf_pointer c.args.leaf) c.as_ref.result.now c.as_ref.ensures c.args.depth leads in
    omega (arith, ap length bytes, deep, fits, ap length (take_rest c.as_bytes-text.result.now c.args.depth), length-drop c.args.depth c.as_bytes-text.result.now)

pub returns-in-Less : goal.returns-in-Less
returns-in-Less g c = λ whole leads.
    let x = g.Q.RadixQuery.encoded c.args.query in
    let rest : take (length c.as_bytes-text.result.now - c.args.depth) (drop c.args.depth c.as_bytes-text.result.now) ≡ drop c.args.depth (g.A.AsBytes.text (leaf_key c.as_ref.result.now)) = take_rest c.as_bytes-text.result.now c.args.depth ∙ ap (drop c.args.depth) (c.as_bytes-text.ensures.text ∙ ap g.A.AsBytes.text c.key_ref.ensures) in
    leaf-less g.A.AsBytes.text c.args.arena.now x whole (leaf_pointer c.args.leaf) c.as_ref.result.now c.as_ref.ensures c.args.depth leads (subst (λ (bytes : List ℕ). ComparesAs x c.args.depth bytes Less) rest c.in-Less.ensures)

pub returns-in-Equal : goal.returns-in-Equal
returns-in-Equal g c = λ whole leads.
    let x = g.Q.RadixQuery.encoded c.args.query in
    let rest : take (length c.as_bytes-text.result.now - c.args.depth) (drop c.args.depth c.as_bytes-text.result.now) ≡ drop c.args.depth (g.A.AsBytes.text (leaf_key c.as_ref.result.now)) = take_rest c.as_bytes-text.result.now c.args.depth ∙ ap (drop c.args.depth) (c.as_bytes-text.ensures.text ∙ ap g.A.AsBytes.text c.key_ref.ensures) in
    leaf-equal g.A.AsBytes.text c.args.arena.now x whole (leaf_pointer c.args.leaf) c.as_ref.result.now c.as_ref.ensures c.args.depth leads (subst (λ (bytes : List ℕ). ComparesAs x c.args.depth bytes Equal) rest c.in-Equal.ensures)

pub returns-in-Greater : goal.returns-in-Greater
returns-in-Greater g c = λ whole leads.
    let x = g.Q.RadixQuery.encoded c.args.query in
    let rest : take (length c.as_bytes-text.result.now - c.args.depth) (drop c.args.depth c.as_bytes-text.result.now) ≡ drop c.args.depth (g.A.AsBytes.text (leaf_key c.as_ref.result.now)) = take_rest c.as_bytes-text.result.now c.args.depth ∙ ap (drop c.args.depth) (c.as_bytes-text.ensures.text ∙ ap g.A.AsBytes.text c.key_ref.ensures) in
    leaf-greater g.A.AsBytes.text c.args.arena.now x whole (leaf_pointer c.args.leaf) c.as_ref.result.now c.as_ref.ensures c.args.depth leads (subst (λ (bytes : List ℕ). ComparesAs x c.args.depth bytes Greater) rest c.in-Greater.ensures)

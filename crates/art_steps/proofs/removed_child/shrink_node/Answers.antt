use Rattle.art_steps.proofs.Names.{◌∙◌, sym, ap, inl, inr, arith, shown, shown_kind}
use Rattle.art_steps.proofs.RemoveLemmas.ShrunkNode.{smaller-room, few-there, replaced-there}
use Rattle.art_steps.proofs.removed_child.shrink_node.Goals as goal

pub shrink-shrunk-requires : goal.shrink-shrunk-requires
shrink-shrunk-requires g c =
    let there = c.node_ref.ensures.node ∙ ap shown c.in-Node16.is in
    let kind = sym c.node_ref.ensures.kind ∙ ap shown_kind c.in-Node16.is in
    let few = few-there c.args.arena.now c.args.pointer kind there c.requires.few in
    (search, (search, omega (arith, few)))

pub replace_node-requires : goal.replace_node-requires
replace_node-requires g c =
    let kind = sym c.node_ref.ensures.kind ∙ ap shown_kind c.in-Node16.is in
    let room = smaller-room c.args.arena.now c.args.pointer kind c.requires.room in
    search

pub returns-in-Node16-clause-replaced : goal.returns-in-Node16-clause-replaced
returns-in-Node16-clause-replaced g c = λ node is.
    let there = c.node_ref.ensures.node ∙ ap shown c.in-Node16.is in
    let kind = sym c.node_ref.ensures.kind ∙ ap shown_kind c.in-Node16.is in
    replaced-there c.args.arena.now c.args.pointer kind there c.shrink-shrunk.ensures is c.replace_node.ensures.replaced

pub shrink-shrunk-requires-in-Node48 : goal.shrink-shrunk-requires-in-Node48
shrink-shrunk-requires-in-Node48 g c =
    let there = c.node_ref.ensures.node ∙ ap shown c.in-Node48.is in
    let kind = sym c.node_ref.ensures.kind ∙ ap shown_kind c.in-Node48.is in
    let few = few-there c.args.arena.now c.args.pointer kind there c.requires.few in
    (search, (search, omega (arith, few)))

pub replace_node-requires-in-Node48 : goal.replace_node-requires-in-Node48
replace_node-requires-in-Node48 g c =
    let kind = sym c.node_ref.ensures.kind ∙ ap shown_kind c.in-Node48.is in
    let room = smaller-room c.args.arena.now c.args.pointer kind c.requires.room in
    search

pub returns-in-Node48-clause-replaced : goal.returns-in-Node48-clause-replaced
returns-in-Node48-clause-replaced g c = λ node is.
    let there = c.node_ref.ensures.node ∙ ap shown c.in-Node48.is in
    let kind = sym c.node_ref.ensures.kind ∙ ap shown_kind c.in-Node48.is in
    replaced-there c.args.arena.now c.args.pointer kind there c.shrink-shrunk-in-Node48.ensures is c.replace_node-in-Node48.ensures.replaced

pub shrink-shrunk-requires-in-Node256 : goal.shrink-shrunk-requires-in-Node256
shrink-shrunk-requires-in-Node256 g c =
    let there = c.node_ref.ensures.node ∙ ap shown c.in-Node256.is in
    let kind = sym c.node_ref.ensures.kind ∙ ap shown_kind c.in-Node256.is in
    let few = few-there c.args.arena.now c.args.pointer kind there c.requires.few in
    (search, (search, omega (arith, few)))

pub replace_node-requires-in-Node256 : goal.replace_node-requires-in-Node256
replace_node-requires-in-Node256 g c =
    let kind = sym c.node_ref.ensures.kind ∙ ap shown_kind c.in-Node256.is in
    let room = smaller-room c.args.arena.now c.args.pointer kind c.requires.room in
    search

pub returns-in-Node256-clause-replaced : goal.returns-in-Node256-clause-replaced
returns-in-Node256-clause-replaced g c = λ node is.
    let there = c.node_ref.ensures.node ∙ ap shown c.in-Node256.is in
    let kind = sym c.node_ref.ensures.kind ∙ ap shown_kind c.in-Node256.is in
    replaced-there c.args.arena.now c.args.pointer kind there c.shrink-shrunk-in-Node256.ensures is c.replace_node-in-Node256.ensures.replaced

pub unreachable-requires : goal.unreachable-requires
unreachable-requires g c = elim c.in-Node4.is [
  | inl e ↦ c.requires.large (sym c.node_ref.ensures.kind ∙ ap shown_kind e.1)
  | inr e ↦ c.requires.inner (sym c.node_ref.ensures.kind ∙ ap shown_kind e.1)
]

pub returns-in-Node16-clause-capacity : goal.returns-in-Node16-clause-capacity
returns-in-Node16-clause-capacity g c = c.replace_node.ensures.capacity

pub returns-in-Node48-clause-capacity : goal.returns-in-Node48-clause-capacity
returns-in-Node48-clause-capacity g c = c.replace_node-in-Node48.ensures.capacity

pub returns-in-Node256-clause-capacity : goal.returns-in-Node256-clause-capacity
returns-in-Node256-clause-capacity g c = c.replace_node-in-Node256.ensures.capacity

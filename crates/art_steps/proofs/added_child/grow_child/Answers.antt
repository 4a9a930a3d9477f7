use Rattle.art_steps.proofs.Names.{◌∙◌, sym, ap, arith, most_children, shown, shown_kind}
use Rattle.art_steps.proofs.InsertLemmas.NodeLemmas.{few-where-absent, room-of-kind, moved-there}
use Rattle.art_steps.proofs.added_child.grow_child.Goals as goal

pub replace_node-requires : goal.replace_node-requires
replace_node-requires g c =
    let there = c.node_ref.ensures.node ∙ ap shown c.in-Node4.is in
    let is_kind = sym c.node_ref.ensures.kind ∙ ap shown_kind c.in-Node4.is in
    let room = room-of-kind c.args.arena.now c.args.pointer _ is_kind there (c.requires.full _ there) c.requires.room in
    search

pub returns-in-Node4-clause-moved : goal.returns-in-Node4-clause-moved
returns-in-Node4-clause-moved g c = λ node is.
    let there = c.node_ref.ensures.node ∙ ap shown c.in-Node4.is in
    let is_kind = sym c.node_ref.ensures.kind ∙ ap shown_kind c.in-Node4.is in
    moved-there c.args.arena.now c.replace_node.new.arena c.args.pointer c.args.byte c.args.child is_kind there (c.requires.full _ there) c.with_child_more-grown.ensures is c.replace_node.ensures.replaced

pub replace_node-requires-in-Node16 : goal.replace_node-requires-in-Node16
replace_node-requires-in-Node16 g c =
    let there = c.node_ref.ensures.node ∙ ap shown c.in-Node16.is in
    let is_kind = sym c.node_ref.ensures.kind ∙ ap shown_kind c.in-Node16.is in
    let room = room-of-kind c.args.arena.now c.args.pointer _ is_kind there (c.requires.full _ there) c.requires.room in
    search

pub returns-in-Node16-clause-moved : goal.returns-in-Node16-clause-moved
returns-in-Node16-clause-moved g c = λ node is.
    let there = c.node_ref.ensures.node ∙ ap shown c.in-Node16.is in
    let is_kind = sym c.node_ref.ensures.kind ∙ ap shown_kind c.in-Node16.is in
    moved-there c.args.arena.now c.replace_node-in-Node16.new.arena c.args.pointer c.args.byte c.args.child is_kind there (c.requires.full _ there) c.with_child_more-grown-in-Node16.ensures is c.replace_node-in-Node16.ensures.replaced

pub replace_node-requires-in-Node48 : goal.replace_node-requires-in-Node48
replace_node-requires-in-Node48 g c =
    let there = c.node_ref.ensures.node ∙ ap shown c.in-Node48.is in
    let is_kind = sym c.node_ref.ensures.kind ∙ ap shown_kind c.in-Node48.is in
    let room = room-of-kind c.args.arena.now c.args.pointer _ is_kind there (c.requires.full _ there) c.requires.room in
    search

pub returns-in-Node48-clause-moved : goal.returns-in-Node48-clause-moved
returns-in-Node48-clause-moved g c = λ node is.
    let there = c.node_ref.ensures.node ∙ ap shown c.in-Node48.is in
    let is_kind = sym c.node_ref.ensures.kind ∙ ap shown_kind c.in-Node48.is in
    moved-there c.args.arena.now c.replace_node-in-Node48.new.arena c.args.pointer c.args.byte c.args.child is_kind there (c.requires.full _ there) c.with_child_more-grown-in-Node48.ensures is c.replace_node-in-Node48.ensures.replaced

pub prove-unreachable-requires : goal.prove-unreachable-requires
prove-unreachable-requires g c =
    let node = c.in-Node256.node.now in
    let there = c.node_ref.ensures.node ∙ ap shown c.in-Node256.is in
    let few = few-where-absent node c.args.byte c.ranges.byte.fits c.num_children.ensures.sound.ascending (c.requires.absent node there) in
    omega (arith, few, c.num_children.ensures.count, c.if-prove.true)

pub unreachable-requires : goal.unreachable-requires
unreachable-requires g c =
    let there = c.node_ref.ensures.node ∙ ap shown c.in-Node256.is in
    let is_kind = sym c.node_ref.ensures.kind ∙ ap shown_kind c.in-Node256.is in
    let full = c.requires.full _ there ∙ ap most_children is_kind in
    omega (arith, full, c.num_children.ensures.count, c.if-prove.false)

pub unreachable-requires-in-LeafNode : goal.unreachable-requires-in-LeafNode
unreachable-requires-in-LeafNode g c = c.requires.inner (sym c.node_ref.ensures.kind ∙ ap shown_kind c.in-LeafNode.is)

pub returns-in-Node4-clause-capacity : goal.returns-in-Node4-clause-capacity
returns-in-Node4-clause-capacity g c = c.replace_node.ensures.capacity

pub returns-in-Node16-clause-capacity : goal.returns-in-Node16-clause-capacity
returns-in-Node16-clause-capacity g c = c.replace_node-in-Node16.ensures.capacity

pub returns-in-Node48-clause-capacity : goal.returns-in-Node48-clause-capacity
returns-in-Node48-clause-capacity g c = c.replace_node-in-Node48.ensures.capacity

use Rattle.art_steps.proofs.Names.{◌∙◌, length, lit<, refl, inl, least_children, node_kind}
use Rattle.art_steps.proofs.RemoveLemmas.ShrunkNode.{less-where-differ, shrunk-held, few-left, not-smallest, room-left, shrunk-left}
use Rattle.art_steps.proofs.SharedLemmas.RoomLemmas.{same-capacity}
use Rattle.art_steps.proofs.removed_child.take_child.Goals as goal

pub shrink_node-requires : goal.shrink_node-requires
shrink_node-requires g c =
    (search, (search, (search, (search, (search, (lit< tt, (shrunk-held c.args.arena.now c.remove_child.new.self c.args.pointer c.args.byte c.requires.held c.requires.inner c.remove_child.ensures.removed, (c.requires.inner, (not-smallest c.args.arena.now c.remove_child.new.self c.args.pointer c.args.byte c.requires.held c.requires.inner c.remove_child.ensures.removed (λ node is. (c.requires.fewest node is).0 c.if-fewest.true) c.requires.many, (few-left c.args.arena.now c.remove_child.new.self c.args.pointer c.args.byte c.requires.held c.requires.inner c.remove_child.ensures.removed (λ node is. (c.requires.fewest node is).0 c.if-fewest.true) c.requires.there, room-left c.args.arena.now c.remove_child.new.self c.args.pointer c.args.byte c.requires.held c.requires.inner c.remove_child.ensures.removed (λ node is. (c.requires.fewest node is).0 c.if-fewest.true) c.requires.room c.remove_child.ensures.room c.requires.many))))))))))

pub returns-then-fewest-clause-capacity : goal.returns-then-fewest-clause-capacity
returns-then-fewest-clause-capacity g c = λ kind. c.shrink_node.ensures.capacity kind ∙ same-capacity c.args.arena.now c.remove_child.new.self c.remove_child.ensures.room kind

pub returns-then-fewest-clause-taken : goal.returns-then-fewest-clause-taken
returns-then-fewest-clause-taken g c = λ node is. shrunk-left c.args.arena.now c.remove_child.new.self c.args.pointer c.args.byte c.requires.held c.requires.inner c.remove_child.ensures.removed (λ node is. (c.requires.fewest node is).0 c.if-fewest.true) node is c.shrink_node.ensures.replaced

pub returns-clause-capacity : goal.returns-clause-capacity
returns-clause-capacity g c = same-capacity c.args.arena.now c.remove_child.new.self c.remove_child.ensures.room

pub returns-clause-taken : goal.returns-clause-taken
returns-clause-taken g c = λ node is.
    inl (record {
      many = less-where-differ (least_children (node_kind c.args.pointer)) (length node.children) (c.requires.many node is).1 (λ fewest. (let yes = (c.requires.fewest node is).1 fewest in let no = c.if-fewest.false in cc));
      same = refl;
      changes = c.remove_child.ensures.removed node is;
      same_room = c.remove_child.ensures.room;
    })

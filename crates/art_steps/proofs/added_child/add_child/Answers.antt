use Rattle.std.proofs.Common.{lit<, refl, inl, inr}
use Rattle.art_steps.proofs.SharedLemmas.RoomLemmas.{same-capacity}
use Rattle.art_steps.proofs.InsertLemmas.NodeLemmas.{not-full}
use Rattle.art_steps.proofs.added_child.add_child.Goals as goal

pub grow_child-requires : goal.grow_child-requires
grow_child-requires g c = (search, (search, (search, (search, (search, (lit< tt, (c.requires.held, (c.requires.inner, (λ node is. (c.requires.full node is).0.0 c.if-full.true, (c.requires.absent, c.requires.room))))))))))

pub returns-then-full-clause-added : goal.returns-then-full-clause-added
returns-then-full-clause-added g c = λ node is. inr (c.grow_child.ensures.moved node is)

pub write_child-requires : goal.write_child-requires
write_child-requires g c = (search, (search, (search, (search, (search, (lit< tt, (c.requires.held, (c.requires.inner, λ node is absent. not-full c.args.arena.now c.args.pointer c.requires.full c.if-full.false node is))))))))

pub returns-clause-capacity : goal.returns-clause-capacity
returns-clause-capacity g c = same-capacity c.args.arena.now c.write_child.new.self c.write_child.ensures.room

pub returns-clause-added : goal.returns-clause-added
returns-clause-added g c = λ node is.
    inl (record {
      few = not-full c.args.arena.now c.args.pointer c.requires.full c.if-full.false node is;
      same = refl;
      changes = c.write_child.ensures.written node is;
    })

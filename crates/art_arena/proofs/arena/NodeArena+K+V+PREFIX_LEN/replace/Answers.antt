use Rattle.std.proofs.Common.{lit<, ◌∙◌, rules, arith, sym}
use Rattle.std.proofs.lemmas.Grind.{common_steps}
use Rattle.art_arena.proofs.arena.NodeArena+K+V+PREFIX_LEN.replace.Goals as goal

pub returns-clause-replaced_node : goal.returns-clause-replaced_node
returns-clause-replaced_node g c = search rules

pub returns-clause-replaced : goal.returns-clause-replaced
returns-clause-replaced g c = grind (arith, common_steps)

pub returns-clause-room : goal.returns-clause-room
returns-clause-room g c = c.as_mut.ensures.room c.replace.new.dest

pub returns-clause-is_held : goal.returns-clause-is_held
returns-clause-is_held g c = λ gone. g.met.N.ArenaNode.is_slab.is_held c.args.node (sym (returns-clause-replaced g c).changed ∙ gone)

pub as_mut-requires : goal.as_mut-requires
as_mut-requires g c = (search, (search, (search, (search, (search, (lit< tt, c.requires))))))

use Rattle.art_arena.specs.Trees.{leaves}
use Rattle.art_index.proofs.DescentLemmas.{leads-root}
use Rattle.art_index.proofs.search.node_beside.Goals as goal

pub way-init : goal.way-init
way-init g c = λ tree is. leads-root g.A.AsBytes.text c.args.arena.now (g.Q.RadixQuery.encoded c.args.query) c.args.root tree is

pub way-preserved : goal.way-preserved
way-preserved g c = λ tree is. c.in-Down.ensures.goes (leaves tree) (c.way.invariant tree is)

pub returns-in-Beside : goal.returns-in-Beside
returns-in-Beside g c = λ tree is. c.in-Beside.ensures.goes (leaves tree) (c.way.invariant tree is)

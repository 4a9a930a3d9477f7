use Rattle.std.proofs.Common.{rules, ◌<◌, arith}
use Rattle.art_arena.specs.Standing.{TreeUnder}
use Rattle.art_index.proofs.DescentLemmas.{goes-greater, goes-less, goes-through, prefix-fits, under-node}
use Rattle.art_index.proofs.search.step_from_inner.Goals as goal

pub read_full_prefix-requires : goal.read_full_prefix-requires
read_full_prefix-requires g c =
    let node = g.N.InnerNodeRead.inner c.args.node.now in
    let (whole, leads) = c.requires.leads in
    let under : g.row.PREFIX_LEN < node.prefix_len → TreeUnder g.A.AsBytes.text c.args.arena.now node c.args.depth = λ longer. under-node g.A.AsBytes.text c.args.arena.now (g.Q.RadixQuery.encoded c.args.query) whole c.args.at node c.requires.node c.args.depth leads in
    search rules

pub compare_at-requires : goal.compare_at-requires
compare_at-requires g c =
    let node = g.N.InnerNodeRead.inner c.args.node.now in
    let text = g.A.AsBytes.text in
    let arena = c.args.arena.now in
    let x = g.Q.RadixQuery.encoded c.args.query in
    let (whole, leads) = c.requires.leads in
    omega (arith, prefix-fits text arena x whole c.args.at node c.requires.node c.args.depth leads c.read_full_prefix.result.0.now (c.read_full_prefix.ensures.shared (under-node text arena x whole c.args.at node c.requires.node c.args.depth leads)))

pub overflow_add-depth : goal.overflow_add-depth
overflow_add-depth g c =
    let node = g.N.InnerNodeRead.inner c.args.node.now in
    let text = g.A.AsBytes.text in
    let arena = c.args.arena.now in
    let x = g.Q.RadixQuery.encoded c.args.query in
    let (whole, leads) = c.requires.leads in
    omega (arith, prefix-fits text arena x whole c.args.at node c.requires.node c.args.depth leads c.read_full_prefix.result.0.now (c.read_full_prefix.ensures.shared (under-node text arena x whole c.args.at node c.requires.node c.args.depth leads)))

pub step_past_prefix-requires : goal.step_past_prefix-requires
step_past_prefix-requires g c =
    let node = g.N.InnerNodeRead.inner c.args.node.now in
    let text = g.A.AsBytes.text in
    let arena = c.args.arena.now in
    let x = g.Q.RadixQuery.encoded c.args.query in
    let (whole, leads) = c.requires.leads in
    omega (arith, prefix-fits text arena x whole c.args.at node c.requires.node c.args.depth leads c.read_full_prefix.result.0.now (c.read_full_prefix.ensures.shared (under-node text arena x whole c.args.at node c.requires.node c.args.depth leads)))

pub returns-in-Less-clause-goes : goal.returns-in-Less-clause-goes
returns-in-Less-clause-goes g c = λ whole leads.
    let node = g.N.InnerNodeRead.inner c.args.node.now in
    let text = g.A.AsBytes.text in
    let arena = c.args.arena.now in
    let x = g.Q.RadixQuery.encoded c.args.query in
    goes-less text arena x whole c.args.at node c.requires.node c.args.depth leads c.read_full_prefix.result.0.now (c.read_full_prefix.ensures.shared (under-node text arena x whole c.args.at node c.requires.node c.args.depth leads)) c.in-Less.ensures

pub returns-in-Greater-clause-goes : goal.returns-in-Greater-clause-goes
returns-in-Greater-clause-goes g c = λ whole leads.
    let node = g.N.InnerNodeRead.inner c.args.node.now in
    let text = g.A.AsBytes.text in
    let arena = c.args.arena.now in
    let x = g.Q.RadixQuery.encoded c.args.query in
    goes-greater text arena x whole c.args.at node c.requires.node c.args.depth leads c.read_full_prefix.result.0.now (c.read_full_prefix.ensures.shared (under-node text arena x whole c.args.at node c.requires.node c.args.depth leads)) c.in-Greater.ensures

pub returns-in-Equal-clause-goes : goal.returns-in-Equal-clause-goes
returns-in-Equal-clause-goes g c = λ whole leads.
    let node = g.N.InnerNodeRead.inner c.args.node.now in
    let text = g.A.AsBytes.text in
    let arena = c.args.arena.now in
    let x = g.Q.RadixQuery.encoded c.args.query in
    c.step_past_prefix.ensures.goes arena whole c.requires.node
    (goes-through text arena x whole c.args.at node c.requires.node c.args.depth leads c.read_full_prefix.result.0.now (c.read_full_prefix.ensures.shared (under-node text arena x whole c.args.at node c.requires.node c.args.depth leads)) c.in-Equal.ensures)

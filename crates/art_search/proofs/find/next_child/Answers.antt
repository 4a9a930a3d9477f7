use Rattle.art_search.proofs.Names.{ap, shown}
use Rattle.art_search.proofs.DescentLemmas.{leads-on-from, leads-nowhere-from}
use Rattle.art_search.proofs.find.next_child.Goals as goal

pub returns-in-Node4-clause-on : goal.returns-in-Node4-clause-on
returns-in-Node4-clause-on g c = leads-on-from g.row.PREFIX_LEN (shown c.args.node) c.in-Node4.node.now c.args.key.now c.args.depth (ap shown c.in-Node4.is) c.next_child_in.result c.next_child_in.ensures.on

pub returns-in-Node4-clause-nowhere : goal.returns-in-Node4-clause-nowhere
returns-in-Node4-clause-nowhere g c = leads-nowhere-from g.row.PREFIX_LEN (shown c.args.node) c.in-Node4.node.now c.args.key.now c.args.depth (ap shown c.in-Node4.is) c.next_child_in.result c.next_child_in.ensures.nowhere

pub returns-in-Node16-clause-on : goal.returns-in-Node16-clause-on
returns-in-Node16-clause-on g c = leads-on-from g.row.PREFIX_LEN (shown c.args.node) c.in-Node16.node.now c.args.key.now c.args.depth (ap shown c.in-Node16.is) c.next_child_in-in-Node16.result c.next_child_in-in-Node16.ensures.on

pub returns-in-Node16-clause-nowhere : goal.returns-in-Node16-clause-nowhere
returns-in-Node16-clause-nowhere g c = leads-nowhere-from g.row.PREFIX_LEN (shown c.args.node) c.in-Node16.node.now c.args.key.now c.args.depth (ap shown c.in-Node16.is) c.next_child_in-in-Node16.result c.next_child_in-in-Node16.ensures.nowhere

pub returns-in-Node48-clause-on : goal.returns-in-Node48-clause-on
returns-in-Node48-clause-on g c = leads-on-from g.row.PREFIX_LEN (shown c.args.node) c.in-Node48.node.now c.args.key.now c.args.depth (ap shown c.in-Node48.is) c.next_child_in-in-Node48.result c.next_child_in-in-Node48.ensures.on

pub returns-in-Node48-clause-nowhere : goal.returns-in-Node48-clause-nowhere
returns-in-Node48-clause-nowhere g c = leads-nowhere-from g.row.PREFIX_LEN (shown c.args.node) c.in-Node48.node.now c.args.key.now c.args.depth (ap shown c.in-Node48.is) c.next_child_in-in-Node48.result c.next_child_in-in-Node48.ensures.nowhere

pub returns-in-Node256-clause-on : goal.returns-in-Node256-clause-on
returns-in-Node256-clause-on g c = leads-on-from g.row.PREFIX_LEN (shown c.args.node) c.in-Node256.node.now c.args.key.now c.args.depth (ap shown c.in-Node256.is) c.next_child_in-in-Node256.result c.next_child_in-in-Node256.ensures.on

pub returns-in-Node256-clause-nowhere : goal.returns-in-Node256-clause-nowhere
returns-in-Node256-clause-nowhere g c = leads-nowhere-from g.row.PREFIX_LEN (shown c.args.node) c.in-Node256.node.now c.args.key.now c.args.depth (ap shown c.in-Node256.is) c.next_child_in-in-Node256.result c.next_child_in-in-Node256.ensures.nowhere

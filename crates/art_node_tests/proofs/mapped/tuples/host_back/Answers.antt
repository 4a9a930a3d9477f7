use Rattle.art_node_tests.proofs.mapped.tuples.host_back.Goals as goal

pub returns : goal.returns
returns c = c.get.ensures.inverts (c.args.host, c.args.port) c.in_ok-new.ensures.value

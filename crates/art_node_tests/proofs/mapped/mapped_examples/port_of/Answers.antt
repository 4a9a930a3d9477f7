use Rattle.art_node_tests.proofs.mapped.mapped_examples.port_of.Goals as goal

pub returns-clause-port : goal.returns-clause-port
returns-clause-port c = c.get.ensures.inverts

use Rattle.art_node_tests.proofs.mapped.mapped_callers.unsigned_back.Goals as goal

pub returns-clause-value : goal.returns-clause-value
returns-clause-value c = c.get.ensures.inverts c.args.value c.in_ok-new.ensures.value

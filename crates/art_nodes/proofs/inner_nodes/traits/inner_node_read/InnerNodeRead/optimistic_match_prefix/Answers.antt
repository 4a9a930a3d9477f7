use Rattle.std.proofs.Common.{rules, arith}
use Rattle.std.proofs.lemmas.Grind.{common_steps}
use Rattle.art_nodes.proofs.inner_nodes.traits.inner_node_read.InnerNodeRead.optimistic_match_prefix.Goals as goal

pub returns-then-truncated_key-prefix_len-clause-matched : goal.returns-then-truncated_key-prefix_len-clause-matched
returns-then-truncated_key-prefix_len-clause-matched g c = search rules

pub returns-then-truncated_key-prefix_len-clause-passes_every_prefix : goal.returns-then-truncated_key-prefix_len-clause-passes_every_prefix
returns-then-truncated_key-prefix_len-clause-passes_every_prefix g c = grind (arith, common_steps)

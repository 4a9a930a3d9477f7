use Rattle.std.proofs.Common.{rules}
use Rattle.art_nodes.proofs.SortedLemmas.{gap_at}
use Rattle.art_nodes.proofs.inner_nodes.representations.inner_node_sorted.find_write_point.Goals as goal

pub returns-in-Some-2-clause-absent : goal.returns-in-Some-2-clause-absent
returns-in-Some-2-clause-absent c = gap_at c.args.keys.now c.args.key_fragment c.in-Some.place c.requires (search rules) (search rules) (λ k lt. search rules)

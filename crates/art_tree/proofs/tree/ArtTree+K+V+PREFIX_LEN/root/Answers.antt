use Rattle.std.proofs.Common.{arith}
use Rattle.std.proofs.lemmas.Grind.{common_steps}
use Rattle.art_tree.proofs.tree.ArtTree+K+V+PREFIX_LEN.root.Goals as goal

pub returns-clause-root : goal.returns-clause-root
returns-clause-root g c = search

pub returns-clause-one_tree : goal.returns-clause-one_tree
returns-clause-one_tree g c = grind (arith, common_steps)

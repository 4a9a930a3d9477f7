use Rattle.std.proofs.Common.{[], refl}
use Rattle.art_arena.proofs.BelowLemmas.{tree-held, node-under, child-at-tree, shared-under}
use Rattle.art_arena.proofs.laws.each_node_of_a_tree_has_a_tree.Goals as goal

pub returns-clause-root : goal.returns-clause-root
returns-clause-root g c = λ arena root tree is. (record { tree = tree; path = []; at_root = is.at_root; stands = is.stands; sound = is.sound }, refl)

pub returns-clause-held : goal.returns-clause-held
returns-clause-held g c = λ arena pointer at. tree-held g.K.AsBytes.text arena at.tree pointer at.at_root at.stands

pub returns-clause-node : goal.returns-clause-node
returns-clause-node g c = λ arena pointer node at is. node-under g.K.AsBytes.text arena pointer node is at

pub returns-clause-child : goal.returns-clause-child
returns-clause-child g c = λ arena pointer child node byte at is has_child. child-at-tree g.K.AsBytes.text arena pointer node is byte child at has_child

pub returns-clause-shared : goal.returns-clause-shared
returns-clause-shared g c = λ arena node depth under. shared-under g.K.AsBytes.text arena node depth under

use Rattle.art_arena.specs.Arena.{HeldInner}
use Rattle.art_arena.proofs.BelowLemmas.{allocated-under}
use Rattle.art_arena.proofs.TreeLaws.{all-allocated, made-tree}
use Rattle.art_arena.proofs.laws.an_allocated_node_makes_a_tree.Goals as goal

pub returns-clause-stands : goal.returns-clause-stands
returns-clause-stands g c = λ old new pointer node prefix branches was_free changes shows stand.
    (node, changes.changed, shows, all-allocated g.K.AsBytes.text old new pointer (HeldInner node) branches was_free changes stand)

pub returns-clause-tree : goal.returns-clause-tree
returns-clause-tree g c = made-tree g.K.AsBytes.text

pub returns-clause-under : goal.returns-clause-under
returns-clause-under g c = λ old new pointer node depth under was_free changes. allocated-under g.K.AsBytes.text old new pointer node depth under was_free changes

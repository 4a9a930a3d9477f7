use Rattle.std.proofs.Common.{◌-◌, ◌^◌}
use Rattle.art_nodes.specs.declared.pointers.OpaqueNodePtr.{OpaqueNodePtr}
use Rattle.art_arena.specs.Standing.{IsTreeIn}
use Rattle.art_arena.specs.Trees.{Tree, leaves}
use Rattle.art_index.specs.Descent.{LeadsTo}
use Rattle.art_index.proofs.search.node_beside.Given as goal

-- the query leads to the node
abbrev pub invariant-way : goal.invariant-way
invariant-way g l =
    (tree : Tree (OpaqueNodePtr g.row.A.Denot g.row.V.Denot g.row.PREFIX_LEN)) → IsTreeIn g.A.AsBytes.text l.arena l.fn.root tree
    → LeadsTo g.A.AsBytes.text l.arena (g.Q.RadixQuery.encoded l.query) (leaves tree) l.at l.depth

abbrev pub decreases-way : goal.decreases-way
decreases-way g l = 2 ^ 64 - l.depth

use Rattle.art_links.proofs.Names.{◌≡◌, take, node_of}
use Rattle.art_links.proofs.node.inner_node.Given as goal

abbrev pub invariant-loop-i : goal.invariant-loop-i
invariant-loop-i g l = g.N.InnerNodeRead.inner l.node ≡ node_of g.row.PREFIX_LEN l.prefix (take l.i l.children)

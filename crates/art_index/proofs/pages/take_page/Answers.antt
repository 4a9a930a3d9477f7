use Rattle.std.proofs.Common.{rules}
use Rattle.art_nodes.specs.Pointers.{slab_key}
use Rattle.art_arena.specs.Links.{HoldsLeaf, leaf_at}
use Rattle.art_index.specs.Places.{leaf_entry}
use Rattle.art_index.proofs.ChangeLemmas.{list-kept, page-taken, previous-stays}
use Rattle.art_index.proofs.PlaceLemmas.{placed-held, some-mapped}
use Rattle.art_index.proofs.pages.take_page.Goals as goal

pub remove_leaf-requires : goal.remove_leaf-requires
remove_leaf-requires g c =
    let holds : HoldsLeaf c.args.tree.now.arena (slab_key c.args.leaf) = placed-held c.args.leaf c.requires in
    search rules

pub returns-clause-taken : goal.returns-clause-taken
returns-clause-taken g c = λ here.
    let (node, at, has) = some-mapped leaf_entry (leaf_at c.args.tree.now.arena (slab_key c.args.leaf)) here.entry here.holds in
    page-taken g.A.AsBytes.text c.args.tree.now c.remove_leaf.new.self c.args.leaf here c.remove_leaf.result node at (c.remove_leaf.ensures node at)

pub returns-clause-previous_stays : goal.returns-clause-previous_stays
returns-clause-previous_stays g c = λ here previous before next.
    let (node, at, has) = some-mapped leaf_entry (leaf_at c.args.tree.now.arena (slab_key c.args.leaf)) here.entry here.holds in
    previous-stays g.A.AsBytes.text c.args.tree.now c.remove_leaf.new.self c.args.leaf here c.remove_leaf.result node at (c.remove_leaf.ensures node at) previous before next

pub returns-clause-same_entries : goal.returns-clause-same_entries
returns-clause-same_entries g c =
    let here = c.requires in
    let (node, at, has) = some-mapped leaf_entry (leaf_at c.args.tree.now.arena (slab_key c.args.leaf)) here.entry here.holds in
    list-kept g.A.AsBytes.text c.args.tree.now c.remove_leaf.new.self c.args.leaf here c.remove_leaf.result node (c.remove_leaf.ensures node at)

pub returns-clause-nodes_kept : goal.returns-clause-nodes_kept
returns-clause-nodes_kept g c =
    let here = c.requires in
    let (node, at, has) = some-mapped leaf_entry (leaf_at c.args.tree.now.arena (slab_key c.args.leaf)) here.entry here.holds in
    (c.remove_leaf.ensures node at).nodes_kept

use Rattle.std.proofs.Common.{subst}
use Rattle.art_nodes.specs.Pointers.{opaque_pointer, slab_key}
use Rattle.art_arena.specs.Arena.{Changes}
use Rattle.art_tree_tests.proofs.PlantLemmas.{each-value}
use Rattle.art_tree_tests.proofs.arena.full_prefix.plant_node.Goals as goal

pub returns : goal.returns
returns g c = λ under.
    let old = c.args.arena.now in
    let new = c.allocate_node_ptr.new.self in
    each-value c.allocate_node_ptr.result c.allocate_node_ptr.ensures.was_free c.allocate_node_ptr.ensures.added (λ pointer was_free added.
    c.an_allocated_node_makes_a_tree.ensures.under old new (opaque_pointer g.N.Node.TYPE (slab_key pointer)) (g.N.InnerNodeRead.inner c.args.node) c.args.depth under was_free
    (subst (Changes old new (opaque_pointer g.N.Node.TYPE (slab_key pointer))) (g.met.N.ArenaInnerNode.shown c.args.node) added))

use Rattle.art_header.specs.declared.node_type.NodeType.TheVariants as NodeType
use Rattle.art_nodes.specs.Pointers.{opaque_pointer, slab_key}
use Rattle.art_tree_tests.proofs.PlantLemmas.{each-value}
use Rattle.art_tree_tests.proofs.arena.leaf_links.link_examples.allocate_leaf.Goals as goal

pub returns : goal.returns
returns g c =
    each-value c.allocate_node_ptr.result c.allocate_node_ptr.ensures.was_free c.allocate_node_ptr.ensures.added (λ leaf was_free added leaves.
    c.allocating_keeps_lists_spelled.ensures c.args.arena.now c.allocate_node_ptr.new.self (opaque_pointer NodeType.Leaf (slab_key leaf)) _ leaves was_free added)

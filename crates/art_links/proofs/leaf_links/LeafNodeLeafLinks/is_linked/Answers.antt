use Rattle.art_links.proofs.leaf_links.LeafNodeLeafLinks.is_linked.Goals as goal

pub as_ref-leaf-requires : goal.as_ref-leaf-requires
as_ref-leaf-requires g c = search

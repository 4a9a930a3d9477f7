-- The names that proofs of this crate cite, of std, of the crates below and of its specs, passed on from one place.
pub use Rattle.std.proofs.Common.{◌∙◌, sym, subst, ap, ◌≡◌, ℕ, arith, List, refl, length, [], ◌∷◌, inl, Some, inr, ◌<◌, ◌≢◌, ◌+◌, ◌≤◌, None, Option, suc, take, lit<, ◌-◌, drop, ◌⊎◌, zero, get_or, IsNone}
pub use Rattle.std.proofs.lemmas.Bool.{le-ltb, lt-ltb, ne_eqb, cases_eq}
pub use Rattle.std.proofs.lemmas.List.{take_all, length-take-le}
pub use Rattle.std.specs.Option.{option_map, option_map_or}
pub use Rattle.art_header.specs.declared.node_type.NodeType.{NodeType}
pub use Rattle.art_header.specs.declared.node_type.NodeType.TheVariants.{Leaf as LeafKind}
pub use Rattle.art_nodes.proofs.KindLaws.{same_or_differ}
pub use Rattle.art_nodes.specs.ChildMap.{child_at, key_bytes, IsAscending, IsAscendingFrom, ChildMap, with_child}
pub use Rattle.art_nodes.specs.Inner.{Inner as InnerNode, HasRoomFor, with_children}
pub use Rattle.art_nodes.specs.Leaf.{leaf_key}
pub use Rattle.art_nodes.specs.Pointers.{slab_key, node_kind, opaque_key, opaque_pointer}
pub use Rattle.art_nodes.specs.declared.leaf_node.LeafNode.{LeafNode}
pub use Rattle.art_nodes.specs.declared.pointers.OpaqueNodePtr.{OpaqueNodePtr}
pub use Rattle.art_arena.specs.Arena.{NodeArena, held, Nothing, HeldLeaf, HeldInner, room, Changes, held_leaf, Held, SameCapacity, SameOtherRoom}
pub use Rattle.art_arena.specs.Links.{HoldsLeaf, leaf_at, text_at}
pub use Rattle.art_arena.specs.Standing.{leaf_text}
pub use Rattle.art_links.specs.Nodes.{node_of, IsPlaced, IsReplaced}

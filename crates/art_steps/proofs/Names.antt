-- The names that proofs of this crate cite, of std, of the crates below and of its specs, passed on from one place.
pub use Rattle.std.proofs.Common.{◌∙◌, sym, subst, ap, ◌≡◌, ℕ, arith, List, refl, length, [], ◌∷◌, inl, Some, inr, ◌++◌, ◌<◌, ◌≢◌, ◌+◌, ◌≤◌, None, Contains, ◌^◌, Option, map, suc, take, append_assoc, All, lit<, ◌-◌, append-nil, drop, length-append, ◌⊎◌, zero, Bool, false, get_or, slice_get, true, IfSome, nat_eq, option_copied, Err, Ok, vec_capacity, AllPairs, IsTrue, Result, ◌↔◌, nat_lt, rules, if◌then◌else◌, IsNone, filter, IfNone, OnErr, min, get_or as slice_index_or, ◌&&◌, OnOk, ◌==◌, IsOk, length-drop, max, nat_le, not}
pub use Rattle.std.proofs.Math.Seq.{take-append-add}
pub use Rattle.std.proofs.lemmas.Bool.{cases_lt, eq-eqb, le-ltb, lt-ltb, ne_eqb, cases_eq, le-leb, false≢true, and_from, lt-leb, eqb-true}
pub use Rattle.std.proofs.lemmas.Bool.Decides.{eqb_tells, nat_tests}
pub use Rattle.std.proofs.lemmas.List.{map-append, length-map, take_all, take_rest, drop_at, length-take-le, drop-drop, take_at, take_more, get_or-map, get_or_past, nil_from_length, take-append-drop, take-take, drop_all, drop_more, get_or-take, take-append-le}
pub use Rattle.std.proofs.lemmas.List.Elements.{Contains-append_right, All-contains, Contains-append_cases, Contains-append_left, All-cons, All-nil, All-tail, All-append, All-head, All-weaker, Contains-get_or, All-map, All-from_get_or, filter_agree}
pub use Rattle.std.proofs.lemmas.List.Sums.{common_prefix_len-le}
pub use Rattle.std.proofs.lemmas.Option.{same_Some, slice_get_within, get_or_from_slice_get, slice_get-get_or}
pub use Rattle.std.specs.Cmp.Lexicographic.{pointwise, nat_list_cmp_total, slice_cmp}
pub use Rattle.std.specs.List.{common_prefix_len, starts_with}
pub use Rattle.std.specs.Option.{option_map, option_and_then, option_map_or, is_some, option_to_list}
pub use Rattle.std.specs.Ordering.{nat_cmp, ordering_reverse, ordering_then}
pub use Rattle.std.specs.Result.{is_err}
pub use Rattle.std.specs.declared.cmp.Ordering.{Ordering}
pub use Rattle.std.specs.declared.cmp.Ordering.TheVariants.{Less, Greater, Equal}
pub use Rattle.art_bytes.proofs.Cases.{by_option, if_none_always, on_err_always}
pub use Rattle.art_bytes.proofs.Members.{the_one, inside_image, all_left, all_right, image_inside, first_or_later, first_there, inside_part, later_there, part_inside}
pub use Rattle.art_bytes.proofs.PrefixLaws.{prefix-shorter, prefix-on}
pub use Rattle.art_bytes.proofs.TextLaws.{by_text, text_itself, order_itself}
pub use Rattle.art_bytes.specs.Text.{IsPrefixOf, text_order, IsText}
pub use Rattle.art_header.specs.Header.{StandsFor, capped, Header, with_more}
pub use Rattle.art_header.specs.NodeType.{kind_for, most_children, least_children, grown_kind, shrunk_kind}
pub use Rattle.art_header.specs.declared.node_type.NodeType.{NodeType}
pub use Rattle.art_header.specs.declared.node_type.NodeType.TheVariants.{Leaf as LeafKind, Node4, Node16, Node256, Node48}
pub use Rattle.art_nodes.proofs.ChildMapLaws.{length_absent, written_over}
pub use Rattle.art_nodes.proofs.KindLaws.{same_or_differ}
pub use Rattle.art_nodes.specs.ChildMap.{child_at, key_bytes, IsAscending, IsAscendingFrom, ChildMap, with_child, without_child}
pub use Rattle.art_nodes.specs.Inner.{Inner as InnerNode, HasRoomFor, header_of, node_with_child, node_with_prefix_of, node_without_child, with_children}
pub use Rattle.art_nodes.specs.Leaf.{leaf_key, leaf_value, next_key, previous_key}
pub use Rattle.art_nodes.specs.Pointers.{slab_key, node_kind, opaque_key, opaque_pointer}
pub use Rattle.art_nodes.specs.declared.leaf_node.LeafNode.{LeafNode}
pub use Rattle.art_nodes.specs.declared.pointers.NodePtr.{NodePtr}
pub use Rattle.art_nodes.specs.declared.pointers.OpaqueNodePtr.{OpaqueNodePtr, OpaqueNodePtr as PointerTo}
pub use Rattle.art_arena.proofs.StandingLaws.{one-inner, leaf_kind, inner-there, at-some, is-some, no-inner-there}
pub use Rattle.art_arena.proofs.TreeLaws.{knit-member, texts-begin, texts-some, all-allocated}
pub use Rattle.art_arena.specs.Arena.{LeafPtr, NodeArena, held, Nothing, HeldLeaf, HeldInner, room, Changes, held_leaf, Held, SameNodes, SameCapacity, SameRoom, SameOtherRoom, SameOtherCapacity, held_under, held_header}
pub use Rattle.art_arena.specs.Ends.{IsAtEnd, end_pair, put_at}
pub use Rattle.art_arena.specs.InnerRef.{inner_shown}
pub use Rattle.art_arena.specs.Links.{HoldsLeaf, leaf_at, IsLinkedList, AreDistinct, text_at, IsKnit, IsUnlinked, SameButLinks, IsLinkedAfter, next_at}
pub use Rattle.art_arena.specs.Reader.{shown, shown_kind}
pub use Rattle.art_arena.specs.Standing.{AllStandIn, StandsIn, TreeAt, IsTreeIn, NodeStands, leaf_text}
pub use Rattle.art_arena.specs.Trees.{Tree, Leaf, Branches, leaves, Inner, Branch, branch_roots, NoBranch, texts, IsSound, branch_leaves, places, root_of, AreSound, branch_places, IsWellFormed, branch_texts}
pub use Rattle.art_arena.specs.declared.ends.End.{End}
pub use Rattle.art_arena.specs.declared.ends.End.TheVariants.{First, Last}
pub use Rattle.art_steps.proofs.Sizes.{leaf-pointer-fits, spot-fits, slice-fits}
pub use Rattle.art_steps.specs.Art.{IsAlone, IsArt}
pub use Rattle.art_steps.specs.Contexts.{join, plug, path_to, Context, leaves_after, leaves_before, Under, Whole, KeepsAt, IsExchanged, parent, Adopts}
pub use Rattle.art_steps.specs.Cuts.{HasOneLess, HasRoomToShrink}
pub use Rattle.art_steps.specs.Dictionary.{entry_at, HasEntry, SameEntries, IsEmpty, IsProperPrefixOf, Clashes, entry_among}
pub use Rattle.art_steps.specs.Edits.{IsOnSide, StaysAt, HasGap, HoldsEntry, IsBeside, two_children, HasRoomToGrow, WhetherFull, HasOneMore, IsMoved}
pub use Rattle.art_steps.specs.Ends.{IsWithin}
pub use Rattle.art_steps.specs.ChildPlaces.{HasChildUnder, IsChildOrRoot, IsLeafBeside, HasGapUnder, pairs_on, branches_on, IsChildBeside}
pub use Rattle.art_steps.specs.Insertion.{IsEntered}
pub use Rattle.art_steps.specs.Loading.{HasSmallestKinds, HaveSmallestKinds, HoldEntries, leaf_pointers, IsLoaded, Adds}
pub use Rattle.art_links.specs.Nodes.{node_of, IsPlaced, IsReplaced}
pub use Rattle.art_steps.specs.Places.{IsSpotIn, above, Belongs, IsDescentIn, LacksChild, Parts, reach, HasLeafText, toward, IsPlaceIn, BeginsAll, IsSpot, LeadsToLeaf, prefix_of, toward_under}
pub use Rattle.art_steps.specs.Plan.{IsPlanOf, needed, AreLoadable, BranchesSpan, Forks, IsFork, Spans, branch_steps, steps_of, byte_before}
pub use Rattle.art_steps.specs.Raising.{leaf_pairs, leaf_texts, IsRaised, HoldLeaves}
pub use Rattle.art_steps.specs.Refusals.{texts_of, text_of_entry, HaveNoFault, fault_at, IsRefusal, fault_between}
pub use Rattle.art_steps.specs.Reserving.{LacksRoomForChild, LacksRoomForFork, LacksRoomToGrow, LacksRoomToShrink}
pub use Rattle.art_steps.specs.Room.{GrowsOnlyWhere}
pub use Rattle.art_search.specs.Search.{leaf_pointer, scan}
pub use Rattle.art_steps.specs.Sides.{AreOn, IsBesideKey, comes_before, is_before, is_last}
pub use Rattle.art_steps.specs.declared.steps.Open.{Open}
pub use Rattle.art_steps.specs.declared.steps.Step.{Step}
pub use Rattle.art_steps.specs.declared.place.Mismatch.{Mismatch}
pub use Rattle.art_steps.specs.declared.place.Side.{Side}
pub use Rattle.art_steps.specs.declared.place.Spot.{Spot}

-- The names that proofs of this crate cite, of std, of the crates below and of its specs, passed on from one place.
pub use Rattle.std.proofs.Common.{◌∙◌, sym, subst, ap, ◌≡◌, ℕ, arith, List, refl, length, [], ◌∷◌, inl, Some, inr, ◌++◌, ◌<◌, ◌≢◌, ◌+◌, ◌≤◌, None, Contains, ◌^◌, Option, map, suc, take, append_assoc, All, lit<, ◌-◌, append-nil, drop, length-append, ◌⊎◌, zero, Bool, false, get_or, slice_get, true, IfSome, nat_eq, option_copied, Err, Ok, vec_capacity, AllPairs, IsTrue, Result, ◌↔◌, nat_lt, if◌then◌else◌, OnErr, cond, min, get_or as slice_index_or, IfOk, IsSome, OnOk, vec_len, IfErr, OnSome, ◌*◌, ◌/◌}
pub use Rattle.std.proofs.lemmas.Bool.{cases_lt, eq-eqb, le-ltb, ne_eqb, cases_eq}
pub use Rattle.std.proofs.lemmas.Bool.Decides.{eqb_tells}
pub use Rattle.std.proofs.lemmas.List.{map-append, length-map, take_all, take_more, get_or-map, get_or_past, append_cancel_left, get_or_at, get_or_default}
pub use Rattle.std.proofs.lemmas.List.Elements.{Contains-append_right, All-contains, Contains-append_cases, Contains-append_left, All-cons, All-nil, All-tail, All-append, All-head, All-weaker, Contains-get_or, Contains-push, Contains-push_cases}
pub use Rattle.std.proofs.lemmas.List.Sums.{sum_by-cons}
pub use Rattle.std.proofs.lemmas.Option.{same_Some, slice_get_within, slice_get-get_or}
pub use Rattle.std.proofs.lemmas.Result.{on_ok_weaker, err_from_is_err_and}
pub use Rattle.std.specs.List.{count_by}
pub use Rattle.std.specs.Option.{option_map, option_and_then, option_map_or, is_some, option_to_list, UnwrapsOrElse, ghost_name_of, option_copied_mut}
pub use Rattle.std.specs.Ordering.{match_ordering}
pub use Rattle.std.specs.Result.{IsErr}
pub use Rattle.std.specs.Vec.Iter.{into_iter_items, into_iter_len}
pub use Rattle.std.specs.declared.cmp.Ordering.{Ordering}
pub use Rattle.std.specs.declared.cmp.Ordering.TheVariants.{Less, Greater, Equal}
pub use Rattle.art_bytes.proofs.Cases.{by_option, if_none_always, if_some_none}
pub use Rattle.art_bytes.proofs.Members.{the_one, inside_image, all_left, all_right, image_inside}
pub use Rattle.art_bytes.proofs.PrefixLaws.{prefix-shorter, prefix-on, prefix-antisym}
pub use Rattle.art_bytes.proofs.TextLaws.{same_texts, by_text, other_text, text_itself, text_is, Ascend, all_below, ascend_rest, by_order, first_below, greater_turned, less_differs, same_order}
pub use Rattle.art_bytes.specs.Text.{IsPrefixOf, text_order}
pub use Rattle.art_header.specs.Header.{StandsFor, capped}
pub use Rattle.art_header.specs.NodeType.{kind_for, most_children, least_children, grown_kind, shrunk_kind}
pub use Rattle.art_header.specs.declared.node_type.NodeType.{NodeType}
pub use Rattle.art_header.specs.declared.node_type.NodeType.TheVariants.{Leaf as LeafKind, Node4, Node16, Node256, Node48}
pub use Rattle.art_nodes.proofs.ChildMapLaws.{ascending_removed, child_at_removed}
pub use Rattle.art_nodes.proofs.KindLaws.{same_or_differ}
pub use Rattle.art_nodes.specs.ChildMap.{child_at, key_bytes, IsAscending, IsAscendingFrom, ChildMap, without_child, first_pair}
pub use Rattle.art_nodes.specs.Inner.{Inner as InnerNode, header_of, node_without_child, Inner as Node}
pub use Rattle.art_nodes.specs.Leaf.{leaf_key, leaf_value, next_key, previous_key, with_value}
pub use Rattle.art_nodes.specs.Pointers.{slab_key, node_kind, opaque_key, opaque_pointer}
pub use Rattle.art_nodes.specs.declared.leaf_node.LeafNode.{LeafNode}
pub use Rattle.art_nodes.specs.declared.pointers.NodePtr.{NodePtr}
pub use Rattle.art_nodes.specs.declared.pointers.OpaqueNodePtr.{OpaqueNodePtr, OpaqueNodePtr as PointerTo}
pub use Rattle.art_arena.proofs.Heights.{height, branches_height, lower-child, tree_height}
pub use Rattle.art_arena.proofs.StandingLaws.{one-inner, leaf_kind, inner-there, at-some, leaf-pointer-is, leaf_place}
pub use Rattle.art_arena.proofs.TreeLaws.{texts-apart, places-apart, texts-ascend, knit-member, next-member, texts-begin, texts-some, GoesOn, IsLongestCommonPrefix-node, list-exchanged, stands-exchanged, texts-go-on}
pub use Rattle.art_arena.specs.Arena.{LeafPtr, NodeArena, held, Nothing, HeldLeaf, HeldInner, room, Changes, held_leaf, Held, SameNodes, SameCapacity, SameRoom, leaf_count, SameOtherRoom, capacity, SameOtherCapacity, held_inner}
pub use Rattle.art_arena.specs.Ends.{IsAtEnd, end_pair}
pub use Rattle.art_arena.specs.InnerRef.{inner_shown}
pub use Rattle.art_arena.specs.Links.{HoldsLeaf, leaf_at, IsLinkedList, AreDistinct, text_at, IsKnit, with_value_at, IsUnlinked, SameButLinks, IsLinkedAfter, next_at, StandsBetween}
pub use Rattle.art_arena.specs.Reader.{shown}
pub use Rattle.art_arena.specs.Standing.{AllStandIn, StandsIn, TreeAt, IsTreeIn, NodeStands}
pub use Rattle.art_arena.specs.Trees.{Tree, Leaf, Branches, leaves, Inner, Branch, branch_roots, NoBranch, texts, IsSound, branch_leaves, places, root_of, AreSound, branch_places, IsWellFormed, branch_texts, SameBranches, SameButPointers}
pub use Rattle.art_arena.specs.declared.ends.End.{End}
pub use Rattle.art_arena.specs.declared.ends.End.TheVariants.{First, Last}
pub use Rattle.art_steps.proofs.Sizes.{leaf-pointer-fits, spot-fits, slice-fits, place-fits, prepared-fits}
pub use Rattle.art_steps.specs.Art.{IsAlone, IsArt, Art}
pub use Rattle.art_steps.specs.Contexts.{join, plug, path_to, Context, leaves_after, leaves_before, Under, Whole, KeepsAt, IsExchanged, parent, Adopts}
pub use Rattle.art_steps.specs.Cuts.{HasOneLess, HasRoomToShrink, WhetherFewest}
pub use Rattle.art_steps.specs.Dictionary.{entry_at, HasEntry, HasKeys, SameEntries, IsEmpty, IsProperPrefixOf, Clashes, SameOtherEntries, IsEntry, entry_among}
pub use Rattle.art_tree.specs.Dropping.{IsAtPath, HasParents, IsTaken, HasLeafAt, steps_to, IsLeafSpot}
pub use Rattle.art_steps.specs.Edits.{IsOnSide, StaysAt, HasGap, HoldsEntry, IsBeside, two_children, HasRoomToGrow, WhetherFull}
pub use Rattle.art_steps.specs.Ends.{PopsEntry, EndMeets, IsEndEntry}
pub use Rattle.art_tree.specs.Entering.{IsPlaceOf, IsPresent, InsertsAt, ReplacesEntry, FindsOrInserts}
pub use Rattle.art_tree.specs.Entries.{entries_of, entries_among, AreEntries, put_entry, without_text}
pub use Rattle.art_tree.specs.Finding.{IsFound, IsLeafOf, ReachesLeaf, IsEndFound}
pub use Rattle.art_steps.specs.ChildPlaces.{HasChildUnder, IsChildOrRoot, IsLeafBeside, HasGapUnder}
pub use Rattle.art_steps.specs.Insertion.{IsEntered, InsertsNew, AddsEntry, ClashesIn, FindsEntry, IsRefused, MayEnter}
pub use Rattle.art_tree.specs.LeafRemoval.{TakesEntry}
pub use Rattle.art_steps.specs.Loading.{HasSmallestKinds, HaveSmallestKinds, HoldEntries, leaf_pointers, AreLinked, IsLoaded, Adds}
pub use Rattle.art_steps.specs.NodeCounts.{nodes_of, one_if_same, branch_nodes_of, most_nodes}
pub use Rattle.art_links.specs.Nodes.{node_of, IsPlaced, node_with_prefix, FreesOne}
pub use Rattle.art_search.specs.Paths.{path_of, Steps, HasVisited}
pub use Rattle.art_steps.specs.Places.{above, Belongs, LacksChild, Parts, present_leaf, reach, IsSpot}
pub use Rattle.art_steps.specs.Plan.{IsPlanOf, needed, AreLoadable, Forks}
pub use Rattle.art_steps.specs.Raising.{leaf_pairs, leaf_texts, IsRaised}
pub use Rattle.art_steps.specs.Refusals.{texts_of, text_of_entry, HaveNoFault}
pub use Rattle.art_tree.specs.Reloading.{AreLeavesOf, IsReloaded}
pub use Rattle.art_steps.specs.Removal.{RemovesEntry, IsRemoved, IsLeft, NeedsSmallerNode, RemovesFreely}
pub use Rattle.art_steps.specs.Reserving.{LacksRoomForChild, LacksRoomForFork, LacksRoomToShrink}
pub use Rattle.art_steps.specs.Room.{LacksRoomToInsert, GrowsOnlyWhere, HasRoomOf, LacksRoomToRemove, FreesOneEach, HasFewer, LacksRoomFor}
pub use Rattle.art_search.specs.Search.{leaf_pointer, IsWay, EachTree, IsWayUnder, scan, HasTree, IsPathTo, found}
pub use Rattle.art_tree.specs.TreeLending.{HasValueNow}
pub use Rattle.art_steps.specs.declared.faults.InsertFault.{InsertFault}
pub use Rattle.art_steps.specs.declared.faults.InsertRefusal.TheVariants.{KeyTooLong, OutOfMemory, Prefix}
pub use Rattle.art_search.specs.declared.path.TreePath.{TreePath}
pub use Rattle.art_search.specs.declared.path.TreePath.TheVariants.{Root, ChildOfRoot, Normal}
pub use Rattle.art_steps.specs.declared.place.Mismatch.{Mismatch}
pub use Rattle.art_steps.specs.declared.place.Place.{Place}
pub use Rattle.art_steps.specs.declared.place.Spot.{Spot}

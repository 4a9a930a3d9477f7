-- The names that proofs about leaves cite, of std, of the crates below and of specs, passed on from one place.
pub use Rattle.std.proofs.Common.{All, AllPairs, Bool, Contains, List, None, Option, Some, [], ap, append-nil, append_assoc, arith, cond, false, filter, get_or, inl, inr, length, length-append, lit<, map, nat_eq, not, refl, rules, slice_get, get_or as slice_index_or, subst, suc, sym, true, zero, ℕ, ◌&&◌, ◌++◌, ◌<◌, ◌^◌, ◌∙◌, ◌∷◌, ◌≡◌, ◌≢◌, ◌≤◌, ◌⊎◌}
pub use Rattle.std.proofs.lemmas.Bool.Decides.{eqb_tells}
pub use Rattle.std.proofs.lemmas.List.{get_or_append_left, map-append}
pub use Rattle.std.proofs.lemmas.List.Elements.{All-append, All-cons, All-contains, All-head, All-map, All-nil, All-tail, All-weaker, Contains-append_cases, Contains-append_right, Contains-get_or, filter-append, filter_agree, filter_map-append}
pub use Rattle.std.proofs.lemmas.List.Sums.{count_by-le-length}
pub use Rattle.std.proofs.lemmas.Option.{none-some, same_Some}
pub use Rattle.std.proofs.lemmas.Result.{IfOk-from_err}
pub use Rattle.std.specs.Cmp.Lexicographic.{nat_list_cmp_total, pointwise}
pub use Rattle.std.specs.List.{cons_option}
pub use Rattle.std.specs.Map.Calls.{CallableOnEachPair, CalledAtPair, RetainsPairs, TakesPair}
pub use Rattle.std.specs.Option.{is_some, option_and_then, option_map, option_map_or}
pub use Rattle.std.specs.Ordering.{is_ge, is_gt, is_le, is_lt, ordering_reverse}
pub use Rattle.std.specs.declared.cmp.Ordering.{Ordering}
pub use Rattle.std.specs.declared.cmp.Ordering.TheVariants.{Equal, Greater, Less}
pub use Rattle.art_bytes.proofs.Cases.{on_err_always}
pub use Rattle.art_bytes.proofs.Members.{all_left, all_right, first_or_later, first_there, image_inside, none_inside}
pub use Rattle.art_bytes.proofs.TextLaws.{Ascend, ascend_rest, by_text, greater_differs, less_differs, none_below, order_itself, other_text, same_order, same_text, text_itself, texts_differ}
pub use Rattle.art_bytes.specs.Text.{text_order}
pub use Rattle.art_nodes.specs.Leaf.{leaf_key, leaf_value, next_key, previous_key}
pub use Rattle.art_nodes.specs.Pointers.{opaque_key, opaque_pointer, slab_key}
pub use Rattle.art_nodes.specs.declared.leaf_node.LeafNode.{LeafNode}
pub use Rattle.art_nodes.specs.declared.pointers.OpaqueNodePtr.{OpaqueNodePtr}
pub use Rattle.art_arena.proofs.StandingLaws.{leaf_place, one-inner}
pub use Rattle.art_arena.proofs.TreeLaws.{first-member, knit-member, list-exchanged, next-member, previous-member, stands-exchanged}
pub use Rattle.art_arena.specs.Arena.{Changes, Held, HeldInner, HeldLeaf, LeafPtr, NodeArena, Nothing, held, held_leaf}
pub use Rattle.art_arena.specs.Links.{AreDistinct, IsLinkedAfter, IsLinkedList, leaf_at, next_at, previous_at, with_value_at}
pub use Rattle.art_arena.specs.Standing.{AllStandIn, StandsIn}
pub use Rattle.art_arena.specs.Trees.{Branch, Branches, Inner, Leaf, NoBranch, Tree, branch_places, branch_roots, leaves, places}
pub use Rattle.art_arena.specs.declared.ends.End.{End}
pub use Rattle.art_arena.specs.declared.ends.End.TheVariants.{First, Last}
pub use Rattle.art_tree.proofs.EntryLaws.{HasEach, apart-there, are-entries, ascend-there, distinct-fit, empty-entry, entry-of-member, entry-some, entry-texts, leaf-held-in, leaf-in, list-put, list-same, list-without, no-list, one-list, put-cases, text-of-entry}
pub use Rattle.art_steps.specs.Art.{IsAlone, IsArt}
pub use Rattle.art_steps.specs.Dictionary.{HasEntry, IsEntry, SameOtherEntries, entry_among, entry_at}
pub use Rattle.art_tree.specs.Entries.{AreEntries, entries_among, entries_of, put_entry, without_text}
pub use Rattle.art_steps.specs.Refusals.{texts_of}
pub use Rattle.art_steps.specs.Removal.{IsLeft, NeedsSmallerNode}
pub use Rattle.art_search.specs.Search.{leaf_pointer}
pub use Rattle.art_steps.specs.Sides.{AreOn, IsBesideKey, is_before}
pub use Rattle.art_steps.specs.declared.place.Side.{Side}
pub use Rattle.art_steps.specs.declared.place.Side.TheVariants.{After, AfterBegun, Before}
pub use Rattle.art_routes.specs.TreeEntries.{entries_with_value, entry_with, set_value}
pub use Rattle.art_routes.specs.LeafEntries.{AllHold, HoldsEntryOf, slab_keys_of}
pub use Rattle.art_routes.specs.NearestLeaves.{IsBesideKeyOrNone, IsFirstAfter, IsLastBefore, is_between}
pub use Rattle.art_routes.specs.Retaining.{StopsRetaining}
pub use Rattle.art_routes.specs.LeafRuns.{EndsIn, IsEndAndRest, IsRun, LeadsOver, LinksOver, StepsOver, at_end, entries_under, first_or, key_and_value, run_entries, slab_keys_between}
pub use Rattle.art_routes.specs.Shrinking.{HasLeafOf, IsFewest, NeedsNode, ShrinksWithout, SomeShrinksWithout}
pub use Rattle.art_routes.specs.LeafWalks.{HoldsFirst, IsSplit, MayVisit}

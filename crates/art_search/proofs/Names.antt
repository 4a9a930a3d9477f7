-- The names that proofs of this crate cite, of std, of the crates below and of its specs, passed on from one place.
pub use Rattle.std.proofs.Common.{◌∙◌, sym, subst, ap, ◌≡◌, ℕ, arith, List, refl, length, [], ◌∷◌, inl, Some, inr, ◌++◌, ◌<◌, ◌≢◌, ◌+◌, ◌≤◌, None, Contains, Option, suc, take, append_assoc, All, lit<, ◌-◌, append-nil, drop, length-append, ◌⊎◌, zero, Bool, false, slice_get, true, IfSome, nat_eq, Err, Ok, IsTrue, Result, nat_lt, if◌then◌else◌, filter, IfNone, cond, IfOk, Bor, ◌||◌}
pub use Rattle.std.proofs.Math.Seq.{drop-append_seam}
pub use Rattle.std.proofs.lemmas.Bool.{cases_lt, eq-eqb, le-ltb, lt-ltb, ne_eqb, le-leb, and_from, and_parts, or_left, or_right}
pub use Rattle.std.proofs.lemmas.Bool.Decides.{eqb_tells}
pub use Rattle.std.proofs.lemmas.List.{take_rest, drop-drop, nil_from_length}
pub use Rattle.std.proofs.lemmas.List.Elements.{Contains-append_right, All-contains, Contains-append_cases, Contains-append_left, All-cons, All-tail, All-head, filter-append}
pub use Rattle.std.proofs.lemmas.Option.{same_Some, slice_get_within, get_or_from_slice_get, slice_get-get_or}
pub use Rattle.std.specs.Cmp.Lexicographic.{pointwise}
pub use Rattle.std.specs.List.{common_prefix_len, starts_with}
pub use Rattle.std.specs.Result.{result_ok}
pub use Rattle.art_bytes.proofs.Cases.{if_none_always}
pub use Rattle.art_bytes.proofs.Members.{the_one, all_left}
pub use Rattle.art_bytes.proofs.PrefixLaws.{prefix-shorter}
pub use Rattle.art_bytes.proofs.TextLaws.{other_text, text_itself}
pub use Rattle.art_bytes.specs.Text.{IsPrefixOf}
pub use Rattle.art_nodes.specs.ChildMap.{child_at, key_bytes, IsAscendingFrom}
pub use Rattle.art_nodes.specs.Inner.{Inner as InnerNode}
pub use Rattle.art_nodes.specs.Pointers.{slab_key, opaque_key}
pub use Rattle.art_nodes.specs.declared.leaf_node.LeafNode.{LeafNode}
pub use Rattle.art_nodes.specs.declared.pointers.OpaqueNodePtr.{OpaqueNodePtr, OpaqueNodePtr as PointerTo}
pub use Rattle.art_arena.proofs.StandingLaws.{leaf_kind, at-some, leaf-pointer-is, shown-prefix}
pub use Rattle.art_arena.proofs.TreeLaws.{places-apart}
pub use Rattle.art_arena.specs.Arena.{LeafPtr, NodeArena, held, Nothing, HeldLeaf, HeldInner, Held}
pub use Rattle.art_arena.specs.Links.{AreDistinct}
pub use Rattle.art_arena.specs.Reader.{shown}
pub use Rattle.art_arena.specs.Standing.{AllStandIn, StandsIn, IsTreeIn, NodeStands, leaf_text}
pub use Rattle.art_arena.specs.Trees.{Tree, Leaf, Branches, Inner, Branch, branch_roots, NoBranch, IsSound, branch_leaves, places, root_of, AreSound, branch_places}
pub use Rattle.art_search.specs.Descent.{LeadsNowhere, LeadsNowhereFrom, LeadsOn, LeadsOnFrom}
pub use Rattle.art_search.specs.Paths.{path_of, Steps, HasVisited, finished_with}
pub use Rattle.art_search.specs.Search.{leaf_pointer, IsWay, IsWayUnder, scan, goes_to, met, LeadsTo, met_below, HasChildAt}
pub use Rattle.art_search.specs.declared.path.TreePath.{TreePath}
pub use Rattle.art_search.specs.declared.path.TreePath.TheVariants.{Root, ChildOfRoot, Normal}

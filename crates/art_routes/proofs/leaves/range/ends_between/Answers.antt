use Rattle.art_routes.proofs.LeafNames.{IsAlone, IsArt, IsFirstAfter, IsLastBefore, Nothing, OpaqueNodePtr, Tree, ap, filter, held, is_before, is_between, leaf_pointer, leaves, option_map, run_entries, subst, sym, ◌∙◌, ◌≢◌}
use Rattle.art_routes.specs.Keys.{key_text}
use Rattle.art_routes.specs.Networks.{Block}
use Rattle.art_routes.proofs.EntryLemmas.{no-entries}
use Rattle.art_routes.proofs.LinkLemmas.{leaf-pointer-fits}
use Rattle.art_routes.proofs.RangeLemmas.{front-held, front-text, range-apart, range-high, range-low, range-run, range-some, something-held}
use Rattle.art_routes.proofs.leaves.range.ends_between.Given.{Over}
use Rattle.art_routes.proofs.leaves.range.ends_between.Goals.{After-leaves_beside}
use Rattle.art_routes.proofs.leaves.range.ends_between.Goals as goal

-- the tree of the arena
module _ (g : Over) (c : After-leaves_beside g) where
  found : (tree : Tree (OpaqueNodePtr Block g.row.V.Denot 20)) × IsAlone key_text c.args.tree.now.arena c.in_ok-root.root tree
  found = subst (IsArt key_text c.args.tree.now.arena) (sym c.root.ensures.root ∙ c.in_ok-root.was) c.root.ensures.one_tree

  there : IsAlone key_text c.arena-arena.result.now c.in_ok-root.root found.0
  there = subst (λ arena. IsAlone key_text arena c.in_ok-root.root found.0) (sym c.arena-arena.ensures.arena) found.1

pub returns-in_err-root-clause-entries : goal.returns-in_err-root-clause-entries
returns-in_err-root-clause-entries g c =
    let arena = c.args.tree.now.arena in
    let art = subst (IsArt key_text arena) (sym c.root.ensures.root ∙ c.in_err-root.was) c.root.ensures.one_tree in
    ap (run_entries arena) c.from_residual.ensures ∙ sym (ap (filter (λ entry. is_between c.args.start_side c.args.start.now c.args.end_side c.args.end.now (key_text entry.0))) (no-entries key_text arena art))

pub returns-in_err-first-clause-entries : goal.returns-in_err-first-clause-entries
returns-in_err-first-clause-entries g c =
    let at = (goal.at.returns-in_err-first-clause-entries g c).After-leaves_beside in
    let tree = (found g at).0 in
    let low = subst (λ o. IsFirstAfter c.args.start_side c.args.start.now (leaves tree) (option_map leaf_pointer o)) c.in_err-first.was (c.leaf_toward.ensures c.in_ok-root.root tree c.args.start_side c.args.start.now (there g at) (c.leaves_beside.ensures.start tree (there g at).is_tree)) in
    ap (run_entries c.args.tree.now.arena) c.from_residual-in_err-first.ensures
    ∙ range-low (found g at).1 c.args.start_side c.args.start.now c.args.end_side c.args.end.now low

pub returns-in_err-last-clause-entries : goal.returns-in_err-last-clause-entries
returns-in_err-last-clause-entries g c =
    let at = (goal.at.returns-in_err-last-clause-entries g c).After-leaves_beside in
    let tree = (found g at).0 in
    let high = subst (λ o. IsLastBefore c.args.end_side c.args.end.now (leaves tree) (option_map leaf_pointer o)) c.in_err-last.was (c.leaf_toward-2.ensures c.in_ok-root.root tree c.args.end_side c.args.end.now (there g at) (c.leaves_beside.ensures.end tree (there g at).is_tree)) in
    ap (run_entries c.args.tree.now.arena) c.from_residual-in_err-last.ensures
    ∙ range-high (found g at).1 c.args.start_side c.args.start.now c.args.end_side c.args.end.now high

pub as_ref-requires : goal.as_ref-requires
as_ref-requires g c =
    let at = (goal.at.as_ref-requires g c).After-leaves_beside in
    let tree = (found g at).0 in
    let first = c.in_ok-first.first in
    let low = subst (λ o. IsFirstAfter c.args.start_side c.args.start.now (leaves tree) (option_map leaf_pointer o)) c.in_ok-first.was (c.leaf_toward.ensures c.in_ok-root.root tree c.args.start_side c.args.start.now (there g at) (c.leaves_beside.ensures.start tree (there g at).is_tree)) in
    let one = front-held (found g at).1 c.args.start_side c.args.start.now c.args.end_side c.args.end.now first low in
    let is_held : held c.arena-arena.result.now (leaf_pointer first) ≢ Nothing = something-held (held c.arena-arena.result.now (leaf_pointer first)) one.leaf (ap (λ a. held a (leaf_pointer first)) c.arena-arena.ensures.arena ∙ one.there) in
    assumption leaf-pointer-fits

pub returns-then-is_before : goal.returns-then-is_before
returns-then-is_before g c =
    let arena = c.args.tree.now.arena in
    let at = (goal.at.returns-then-is_before g c).After-leaves_beside in
    let tree = (found g at).0 in
    let first = c.in_ok-first.first in
    let low = subst (λ o. IsFirstAfter c.args.start_side c.args.start.now (leaves tree) (option_map leaf_pointer o)) c.in_ok-first.was (c.leaf_toward.ensures c.in_ok-root.root tree c.args.start_side c.args.start.now (there g at) (c.leaves_beside.ensures.start tree (there g at).is_tree)) in
    let high = subst (λ o. IsLastBefore c.args.end_side c.args.end.now (leaves tree) (option_map leaf_pointer o)) c.in_ok-last.was (c.leaf_toward-2.ensures c.in_ok-root.root tree c.args.end_side c.args.end.now (there g at) (c.leaves_beside.ensures.end tree (there g at).is_tree)) in
    let seen = ap (λ a. held a (leaf_pointer first)) (sym c.arena-arena.ensures.arena) ∙ c.as_ref.ensures in
    let same = front-text (found g at).1 c.args.start_side c.args.start.now c.args.end_side c.args.end.now first low c.as_ref.result.now seen in
    let read = c.as_bytes-text.ensures.text ∙ ap key_text c.key_ref.ensures ∙ same in
    let inside = ap (is_before c.args.end_side c.args.end.now) (sym read) ∙ sym c.is_before.ensures ∙ c.if-is_before.true in
    record {
      run = range-run (found g at).1 c.args.start_side c.args.start.now c.args.end_side c.args.end.now first low c.in_ok-last.last high inside;
      entries = range-some (found g at).1 c.args.start_side c.args.start.now c.args.end_side c.args.end.now first low c.in_ok-last.last high inside;
    }

pub returns-else-is_before-clause-entries : goal.returns-else-is_before-clause-entries
returns-else-is_before-clause-entries g c =
    let arena = c.args.tree.now.arena in
    let at = (goal.at.returns-else-is_before-clause-entries g c).After-leaves_beside in
    let tree = (found g at).0 in
    let first = c.in_ok-first.first in
    let low = subst (λ o. IsFirstAfter c.args.start_side c.args.start.now (leaves tree) (option_map leaf_pointer o)) c.in_ok-first.was (c.leaf_toward.ensures c.in_ok-root.root tree c.args.start_side c.args.start.now (there g at) (c.leaves_beside.ensures.start tree (there g at).is_tree)) in
    let high = subst (λ o. IsLastBefore c.args.end_side c.args.end.now (leaves tree) (option_map leaf_pointer o)) c.in_ok-last.was (c.leaf_toward-2.ensures c.in_ok-root.root tree c.args.end_side c.args.end.now (there g at) (c.leaves_beside.ensures.end tree (there g at).is_tree)) in
    let seen = ap (λ a. held a (leaf_pointer first)) (sym c.arena-arena.ensures.arena) ∙ c.as_ref.ensures in
    let same = front-text (found g at).1 c.args.start_side c.args.start.now c.args.end_side c.args.end.now first low c.as_ref.result.now seen in
    let read = c.as_bytes-text.ensures.text ∙ ap key_text c.key_ref.ensures ∙ same in
    let past = ap (is_before c.args.end_side c.args.end.now) (sym read) ∙ sym c.is_before.ensures ∙ c.if-is_before.false in
    range-apart (found g at).1 c.args.start_side c.args.start.now c.args.end_side c.args.end.now first low c.in_ok-last.last high past

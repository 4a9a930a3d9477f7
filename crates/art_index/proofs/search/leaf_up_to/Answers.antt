use Rattle.std.proofs.Common.{◌≡◌, ◌∙◌, rules, Some, refl, sym, ap, subst}
use Rattle.std.specs.Option.{option_and_then, option_map}
use Rattle.art_nodes.specs.Leaf.{previous_key}
use Rattle.art_nodes.specs.Pointers.{slab_key}
use Rattle.art_arena.specs.Ends.{IsAtEnd}
use Rattle.art_arena.specs.Links.{HoldsLeaf, leaf_at, previous_at}
use Rattle.art_arena.specs.Trees.{leaves}
use Rattle.art_search.specs.Search.{leaf_pointer}
use Rattle.art_index.specs.Descent.{IsUpTo}
use Rattle.art_index.proofs.PlaceLemmas.{slot-of}
use Rattle.art_index.proofs.search.leaf_up_to.Goals as goal

pub as_ref-requires : goal.as_ref-requires
as_ref-requires g c =
    let holds : HoldsLeaf c.args.arena.now (slab_key c.leaf_at_end-leaf.result) = c.leaf_at_end-leaf.ensures.held in
    search rules

pub returns-in-Last : goal.returns-in-Last
returns-in-Last g c = λ found.
    let leaf = c.leaf_at_end-leaf.result in
    let at_end = subst (λ e. IsAtEnd e (leaves found.tree) (leaf_pointer leaf)) c.in-Last.is (c.leaf_at_end-leaf.ensures.at_end found) in
    subst (λ e. IsUpTo c.args.arena.now e (leaves found.tree) (Some leaf)) (sym c.in-Last.is) (leaf, at_end, c.leaf_at_end-leaf.ensures.held, refl)

pub returns-in-First : goal.returns-in-First
returns-in-First g c = λ found.
    let arena = c.args.arena.now in
    let leaf = c.leaf_at_end-leaf.result in
    let at_end = subst (λ e. IsAtEnd e (leaves found.tree) (leaf_pointer leaf)) c.in-First.is (c.leaf_at_end-leaf.ensures.at_end found) in
    let slot = slot-of (leaf_at arena (slab_key leaf)) c.as_ref.result.now c.as_ref.ensures in
    let names : option_map slab_key c.previous.result ≡ previous_at arena (slab_key leaf) = c.previous.ensures ∙ sym (ap (option_and_then previous_key) slot) in
    subst (λ e. IsUpTo arena e (leaves found.tree) c.previous.result) (sym c.in-First.is) (leaf, at_end, c.leaf_at_end-leaf.ensures.held, names)

use Rattle.std.proofs.Common.{◌≡◌, ◌∙◌, rules, sym, ap, subst, Some}
use Rattle.std.specs.Option.{option_and_then, option_map}
use Rattle.art_nodes.specs.Leaf.{previous_key}
use Rattle.art_nodes.specs.Pointers.{slab_key}
use Rattle.art_arena.specs.Links.{HoldsLeaf, leaf_at, previous_at}
use Rattle.art_index.proofs.LinkLemmas.{previous-in}
use Rattle.art_index.proofs.PlaceLemmas.{placed-held, slot-of}
use Rattle.art_index.proofs.pages.previous_page.Goals as goal

pub as_ref-requires : goal.as_ref-requires
as_ref-requires g c =
    let holds : HoldsLeaf c.arena.result.now (slab_key c.args.leaf) = subst (λ a. HoldsLeaf a (slab_key c.args.leaf)) (sym c.arena.ensures.arena) (placed-held c.args.leaf c.requires) in
    search rules

pub returns : goal.returns
returns g c = λ here.
    let arena = c.args.tree.now.arena in
    let leaf = c.args.leaf in
    let slot : leaf_at arena (slab_key leaf) ≡ Some c.as_ref.result.now = ap (λ a. leaf_at a (slab_key leaf)) (sym c.arena.ensures.arena) ∙ slot-of (leaf_at c.arena.result.now (slab_key leaf)) c.as_ref.result.now c.as_ref.ensures in
    let names : option_map slab_key c.previous.result ≡ previous_at arena (slab_key leaf) = c.previous.ensures ∙ sym (ap (option_and_then previous_key) slot) in
    previous-in c.args.tree.now.root c.arena.ensures.one_tree leaf here c.previous.result names

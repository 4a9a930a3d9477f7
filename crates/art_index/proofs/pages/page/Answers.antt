use Rattle.std.proofs.Common.{◌∙◌, rules, sym, ap, subst}
use Rattle.std.specs.Option.{option_map}
use Rattle.art_nodes.specs.Leaf.{leaf_key, leaf_value}
use Rattle.art_nodes.specs.Pointers.{slab_key}
use Rattle.art_arena.specs.Links.{HoldsLeaf, leaf_at}
use Rattle.art_index.proofs.ChangeLemmas.{entry-read}
use Rattle.art_index.proofs.PlaceLemmas.{placed-held}
use Rattle.art_index.proofs.pages.page.Goals as goal

pub as_key_value_ref-requires : goal.as_key_value_ref-requires
as_key_value_ref-requires g c =
    let holds : HoldsLeaf c.arena.result.now (slab_key c.args.leaf) = subst (λ a. HoldsLeaf a (slab_key c.args.leaf)) (sym c.arena.ensures.arena) (placed-held c.args.leaf c.requires) in
    search rules

pub returns : goal.returns
returns g c = λ here.
    let slot = ap (λ a. leaf_at a (slab_key c.args.leaf)) (sym c.arena.ensures.arena) in
    entry-read (leaf_at c.args.tree.now.arena (slab_key c.args.leaf)) c.as_key_value_ref.result.0.now c.as_key_value_ref.result.1.now here.entry
    (ap (option_map leaf_key) slot ∙ c.as_key_value_ref.ensures.key) (ap (option_map leaf_value) slot ∙ c.as_key_value_ref.ensures.value) here.holds

use Rattle.std.proofs.Common.{◌≡◌, ◌∙◌, rules, Some, refl, sym, ap}
use Rattle.std.proofs.lemmas.Option.{same_Some}
use Rattle.std.specs.Option.{option_map}
use Rattle.art_nodes.specs.Leaf.{leaf_value}
use Rattle.art_nodes.specs.Pointers.{slab_key}
use Rattle.art_arena.specs.Links.{HoldsLeaf, leaf_at, with_value_at}
use Rattle.art_index.specs.Places.{leaf_entry}
use Rattle.art_index.proofs.PlaceLemmas.{placed-held, some-mapped}
use Rattle.art_index.proofs.ValueLemmas.{page-changed}
use Rattle.art_index.proofs.pages.page_mut.Goals as goal

pub as_key_ref_value_mut-page-requires : goal.as_key_ref_value_mut-page-requires
as_key_ref_value_mut-page-requires g c =
    let holds : HoldsLeaf c.args.tree.now.arena (slab_key c.args.leaf) = placed-held c.args.leaf c.requires in
    search rules

pub returns : goal.returns
returns g c =
    let arena = c.args.tree.now.arena in
    let key = slab_key c.args.leaf in (
      (refl, λ w. refl),
      record {
        writes_back = tt;
        page = λ here.
            let (node, at, has) = some-mapped leaf_entry (leaf_at arena key) here.entry here.holds in
            let value : Some (leaf_value node) ≡ Some c.as_key_ref_value_mut-page.result.1.now = sym (ap (option_map leaf_value) at) ∙ c.as_key_ref_value_mut-page.ensures.value in
            sym (same_Some (leaf_value node) c.as_key_ref_value_mut-page.result.1.now value) ∙ ap (λ e. e.1) has;
        changes = λ here page.
            let (node, at, has) = some-mapped leaf_entry (leaf_at arena key) here.entry here.holds in
            page-changed g.A.AsBytes.text arena (with_value_at arena key page) c.args.leaf node at page (c.as_key_ref_value_mut-page.ensures.changes node page at) c.args.tree.now.root c.root-root.ensures.one_tree here;
      },
    )

use Rattle.art_routes.proofs.LeafNames.{IsEndAndRest, Nothing, Some, ap, at_end, held, leaf_at, leaf_pointer, run_entries, slab_key, subst, sym, ◌∙◌, ◌≡◌, ◌≢◌}
use Rattle.art_routes.proofs.LinkLemmas.{leaf-pointer-fits}
use Rattle.art_routes.proofs.ListLemmas.{slot-of}
use Rattle.art_routes.proofs.RunLemmas.{end-held, others-stay}
use Rattle.art_routes.proofs.leaves.run.take_out.Goals as goal

pub deallocate_node_ptr-leaf-requires : goal.deallocate_node_ptr-leaf-requires
deallocate_node_ptr-leaf-requires g c =
    let there : held c.args.arena.now (leaf_pointer c.leaf_at_end.result) ≢ Nothing = end-held c.args.arena.now c.args.ends c.requires c.args.end c.leaf_at_end.result c.leaf_at_end.ensures in
    assumption leaf-pointer-fits

pub returns : goal.returns
returns g c =
    let old = c.args.arena.now in
    let new = c.deallocate_node_ptr-leaf.new.self in
    let leaf = c.deallocate_node_ptr-leaf.result in
    let at = slab_key c.leaf_at_end.result in
    let there : leaf_at old at ≡ Some leaf = slot-of (leaf_at old at) leaf c.deallocate_node_ptr-leaf.ensures.node in
    let same = ap slab_key c.leaf_at_end.ensures in
    let here : leaf_at old (slab_key (at_end c.args.end c.args.ends)) ≡ Some leaf = ap (leaf_at old) (sym same) ∙ there in
    let (rest, taken) = c.ends_without-rest.ensures old c.requires here new (λ key differ. others-stay old new at c.deallocate_node_ptr-leaf.ensures.removed key (λ is. differ (is ∙ same))) in
    record {
      taken =
          subst (λ entry. IsEndAndRest c.args.end (run_entries old (Some c.args.ends)) entry (run_entries new c.ends_without-rest.result)) (λ i. (sym c.into_entry.ensures.key i, sym c.into_entry.ensures.value i)) taken;
      rest = rest;
    }

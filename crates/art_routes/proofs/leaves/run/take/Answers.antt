use Rattle.art_routes.proofs.LeafNames.{IsEndAndRest, Nothing, Some, ap, at_end, held, leaf_at, leaf_pointer, refl, run_entries, slab_key, subst, sym, ◌∙◌, ◌≡◌, ◌≢◌}
use Rattle.art_routes.proofs.LinkLemmas.{leaf-pointer-fits}
use Rattle.art_routes.proofs.ListLemmas.{slot-of}
use Rattle.art_routes.proofs.RunLemmas.{end-held}
use Rattle.art_routes.proofs.leaves.run.take.Goals as goal

pub as_ref-leaf-requires : goal.as_ref-leaf-requires
as_ref-leaf-requires g c =
    let there : held c.args.arena.now (leaf_pointer c.leaf_at_end.result) ≢ Nothing = end-held c.args.arena.now c.args.ends c.requires c.args.end c.leaf_at_end.result c.leaf_at_end.ensures in
    assumption leaf-pointer-fits

pub returns : goal.returns
returns g c =
    let arena = c.args.arena.now in
    let leaf = c.as_ref-leaf.result.now in
    let here : leaf_at arena (slab_key (at_end c.args.end c.args.ends)) ≡ Some leaf = ap (λ at. leaf_at arena (slab_key at)) (sym c.leaf_at_end.ensures) ∙ slot-of (leaf_at arena (slab_key c.leaf_at_end.result)) leaf c.as_ref-leaf.ensures in
    let (rest, taken) = c.ends_without.ensures arena c.requires here arena (λ key differ. refl) in
    record {
      taken =
          subst (λ entry. IsEndAndRest c.args.end (run_entries arena (Some c.args.ends)) entry (run_entries arena c.ends_without.result)) (λ i. (sym c.entry_ref.ensures.key i, sym c.entry_ref.ensures.value i)) taken;
      rest = rest;
    }

use Rattle.art_tree.proofs.Names.{◌∙◌, [], ◌∷◌, Some, length, length-append, sym, ap, subst, arith, lit<, option_and_then, option_map, next_key, slab_key, leaf_at, TreeAt, leaf-pointer-fits, slice-fits}
use Rattle.art_tree.proofs.LoadLemmas.ReloadedTree.{IsGathered, gathered-all, gathered-fits, gathered-held, gathered-next, gathered-start}
use Rattle.art_links.proofs.HeldNodes.{leaf-of}
use Rattle.art_tree.proofs.loading.reloading.leaves_in_order.Goals as goal

pub end_leaf-requires : goal.end_leaf-requires
end_leaf-requires g c =
    let (tree, alone) = c.requires in
    let found : TreeAt g.K.AsBytes.text c.args.arena.now c.args.root = record { tree = tree; path = []; at_root = alone.is_tree.at_root; stands = alone.is_tree.stands; sound = alone.is_tree.sound } in
    (assumption, (assumption, (assumption, (assumption, (assumption, (lit< tt, (lit< tt, found)))))))

pub along-init : goal.along-init
along-init g c =
    let text = g.K.AsBytes.text in
    let arena = c.args.arena.now in
    let root = c.args.root in
    let (tree, alone) = c.requires in
    let at_end = c.end_leaf.ensures.at_end (record { tree = tree; path = []; at_root = alone.is_tree.at_root; stands = alone.is_tree.stands; sound = alone.is_tree.sound }) in
    record {
      gathered = subst (λ of. IsGathered text arena root of (Some (slab_key c.end_leaf.result))) (sym c.in_ok-leaves.ensures.items) (gathered-start text arena root tree alone c.end_leaf.result at_end);
      memory = omega (arith, c.leaf_count.ensures, c.in_ok-leaves.ensures.capacity);
    }

pub push_reserved-requires : goal.push_reserved-requires
push_reserved-requires g c =
    let here = subst (λ at. IsGathered g.K.AsBytes.text c.args.arena.now c.args.root c.along.leaves.items (option_map slab_key at)) c.in-Some.is c.along.invariant.gathered in
    omega (arith, gathered-fits here, c.along.invariant.memory, c.along.leaves.ok.0)

pub as_ref-requires : goal.as_ref-requires
as_ref-requires g c =
    let here = subst (λ at. IsGathered g.K.AsBytes.text c.args.arena.now c.args.root c.along.leaves.items (option_map slab_key at)) c.in-Some.is c.along.invariant.gathered in
    let is_held = gathered-held here in
    assumption (leaf-pointer-fits, slice-fits)

pub along-smaller : goal.along-smaller
along-smaller g c =
    let here = subst (λ at. IsGathered g.K.AsBytes.text c.args.arena.now c.args.root c.along.leaves.items (option_map slab_key at)) c.in-Some.is c.along.invariant.gathered in
    let more = ap length c.push_reserved.ensures.items ∙ length-append c.along.leaves.items (c.in-Some.leaf ∷ []) in
    omega (arith, gathered-fits here, more)

pub along-preserved : goal.along-preserved
along-preserved g c =
    let text = g.K.AsBytes.text in
    let arena = c.args.arena.now in
    let root = c.args.root in
    let leaf = c.in-Some.leaf in
    let before = c.along.leaves.items in
    let here = subst (λ at. IsGathered text arena root before (option_map slab_key at)) c.in-Some.is c.along.invariant.gathered in
    let next = c.next-at.ensures ∙ sym (ap (option_and_then next_key) (leaf-of (leaf_at arena (slab_key leaf)) c.as_ref.result.now c.as_ref.ensures)) in
    record {
      gathered = subst (λ of. IsGathered text arena root of (option_map slab_key c.next-at.result)) (sym c.push_reserved.ensures.items) (gathered-next text arena root before leaf (option_map slab_key c.next-at.result) here next);
      memory = omega (arith, c.push_reserved.ensures.capacity, c.along.invariant.memory);
    }

pub returns : goal.returns
returns g c =
    let text = g.K.AsBytes.text in
    let arena = c.args.arena.now in
    gathered-all text arena c.args.root c.along.leaves.items (subst (λ at. IsGathered text arena c.args.root c.along.leaves.items (option_map slab_key at)) c.in_default.is c.along.invariant.gathered)

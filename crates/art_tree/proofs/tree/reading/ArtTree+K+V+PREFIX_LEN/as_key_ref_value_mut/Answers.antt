use Rattle.art_tree.proofs.Names.{◌≡◌, ◌∙◌, Some, refl, ap, sym, subst, option_map, leaf_key, leaf_value, with_value, opaque_pointer, slab_key, Changes, HeldLeaf, HoldsLeaf, leaf_at, with_value_at, LeafKind}
use Rattle.art_tree.proofs.SharedLemmas.LentValue.{leaf-there, value-invariant}
use Rattle.art_tree.proofs.tree.reading.ArtTree+K+V+PREFIX_LEN.as_key_ref_value_mut.Goals as goal

pub invariant_of-self-lent : goal.invariant_of-self-lent
invariant_of-self-lent g c = λ w.
    let old = c.self.inside.arena in
    let key = slab_key c.args.ptr in
    let (was, found) = leaf-there old key (subst (λ seen. HoldsLeaf seen.arena key) (sym c.self.view_is) c.requires) in
    value-invariant g.K.AsBytes.text old key was found w (c.as_key_ref_value_mut.ensures.changes was w found) c.self.inside.root c.self.invariant.0 g.K.AsBytes.is_key c.self.invariant.1

pub returns : goal.returns
returns g c =
    let key = slab_key c.args.ptr in (
      (refl, λ w. ap (λ seen. record { arena = with_value_at seen.arena key w; root = seen.root }) c.self.view_is),
      record {
        writes_back = tt;
        key = ap (λ seen. option_map leaf_key (leaf_at seen.arena key)) (sym c.self.view_is) ∙ c.as_key_ref_value_mut.ensures.key;
        value = ap (λ seen. option_map leaf_value (leaf_at seen.arena key)) (sym c.self.view_is) ∙ c.as_key_ref_value_mut.ensures.value;
        changes = subst (λ seen. (leaf : _) (value : _) → leaf_at seen.arena key ≡ Some leaf → Changes seen.arena (with_value_at seen.arena key value) (opaque_pointer LeafKind key) (HeldLeaf (with_value leaf value))) c.self.view_is c.as_key_ref_value_mut.ensures.changes;
      },
    )

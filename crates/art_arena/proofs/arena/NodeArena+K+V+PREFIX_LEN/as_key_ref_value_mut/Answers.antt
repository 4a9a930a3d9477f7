use Rattle.std.proofs.Common.{◌<◌, ◌^◌, lit<, ◌≡◌, ◌∙◌, Some, refl, sym, ap, subst}
use Rattle.std.specs.Option.{option_map}
use Rattle.art_header.specs.declared.node_type.NodeType.TheVariants as kinds
use Rattle.art_nodes.specs.Pointers.{opaque_pointer}
use Rattle.art_nodes.specs.Leaf.{leaf_key, leaf_value, with_value}
use Rattle.art_arena.specs.Arena.{HeldLeaf, Changes, SameRoom}
use Rattle.art_arena.specs.Links.{leaf_at}
use Rattle.art_arena.proofs.LeafLemmas.{held_leaf-same, with_value_at-found}
use Rattle.art_arena.proofs.arena.NodeArena+K+V+PREFIX_LEN.as_key_ref_value_mut.Goals as goal

pub returns : goal.returns
returns g c =
    let arena = c.args.self.now in
    let key = c.args.ptr.key in
    let stood = c.as_mut.result.now in
    let found : leaf_at arena key ≡ Some stood = held_leaf-same _ _ c.as_mut.ensures.node in (
      (refl, λ w. sym (with_value_at-found arena key stood w found)),
      record {
        writes_back = tt;
        key = ap (option_map leaf_key) found ∙ ap Some (sym c.key_ref_value_mut.ensures.key);
        value = ap (option_map leaf_value) found ∙ ap Some (sym c.key_ref_value_mut.ensures.value);
        changes = λ leaf value there. subst (λ new. Changes arena new (opaque_pointer kinds.Leaf key) (HeldLeaf (with_value leaf value))) (sym (with_value_at-found arena key leaf value there)) (c.as_mut.ensures.changes (with_value leaf value));
        room = λ value. subst (λ new. SameRoom arena new) (sym (with_value_at-found arena key stood value found)) (c.as_mut.ensures.room (with_value stood value));
      },
    )

pub as_mut-requires : goal.as_mut-requires
as_mut-requires g c = (search, (search, (search, (search, (search, (lit< tt, c.requires))))))

pub key_ref_value_mut-requires : goal.key_ref_value_mut-requires
key_ref_value_mut-requires g c = let word : 8 < 2 ^ 63 = lit< tt in search

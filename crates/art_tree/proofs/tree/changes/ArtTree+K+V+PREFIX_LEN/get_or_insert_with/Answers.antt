use Rattle.art_tree.proofs.Names.{◌∙◌, refl, ap, sym, subst, option_map, same_Some, leaf_value, slab_key, HoldsLeaf, leaf_at, with_value_at, FindsEntry, HasValueNow, LacksRoomToInsert, GrowsOnlyWhere, leaf_pointer, held_leaf, leaf-pointer-fits, spot-fits}
use Rattle.art_tree.proofs.SharedLemmas.EnteredValue.{entry-held, entry-written, text-held, value-found}
use Rattle.art_links.proofs.HeldNodes.{leaf-of}
use Rattle.art_tree.proofs.SharedLemmas.LentValue.{leaf-there, value-entered, value-invariant, value-now}
use Rattle.art_steps.proofs.SharedLemmas.RoomLemmas.{grows-on, same-capacity}
use Rattle.art_tree.proofs.tree.changes.ArtTree+K+V+PREFIX_LEN.get_or_insert_with.Goals as goal

pub as_value_mut-requires : goal.as_value_mut-requires
as_value_mut-requires g c =
    let finds = subst (λ seen. FindsEntry g.K.AsBytes.text c.args.self.now.arena seen.arena c.args.key (g.F.FnOnce.post c.args.make tt) (leaf_pointer c.in_ok-leaf.leaf)) (sym c.self.view_is) c.in_ok-leaf.ensures.found.found in
    let is_held : HoldsLeaf c.self.inside.arena (slab_key c.in_ok-leaf.leaf) = entry-held g.K.AsBytes.text c.args.self.now.arena c.self.inside.arena c.args.key (g.F.FnOnce.post c.args.make tt) (leaf_pointer c.in_ok-leaf.leaf) finds in
    assumption (leaf-pointer-fits, spot-fits)

pub invariant_of-self-lent : goal.invariant_of-self-lent
invariant_of-self-lent g c = λ w.
    let mid = c.self.inside.arena in
    let slot = slab_key c.in_ok-leaf.leaf in
    let finds = subst (λ seen. FindsEntry g.K.AsBytes.text c.args.self.now.arena seen.arena c.args.key (g.F.FnOnce.post c.args.make tt) (leaf_pointer c.in_ok-leaf.leaf)) (sym c.self.view_is) c.in_ok-leaf.ensures.found.found in
    let (was, found) = leaf-there mid slot (entry-held g.K.AsBytes.text c.args.self.now.arena c.self.inside.arena c.args.key (g.F.FnOnce.post c.args.make tt) (leaf_pointer c.in_ok-leaf.leaf) finds) in
    value-invariant g.K.AsBytes.text mid slot was found w (c.as_value_mut.ensures.changes was w found) c.self.inside.root c.self.invariant.0 g.K.AsBytes.is_key c.self.invariant.1

pub returns : goal.returns
returns g c =
    let text = g.K.AsBytes.text in
    let old = c.args.self.now in
    let mid = c.self.inside.arena in
    let made = g.F.FnOnce.post c.args.make tt in
    let slot = slab_key c.in_ok-leaf.leaf in
    let done = c.in_ok-leaf.ensures.found in
    let finds = subst (λ seen. FindsEntry text old.arena seen.arena c.args.key made (leaf_pointer c.in_ok-leaf.leaf)) (sym c.self.view_is) done.found in
    let (was, found) = leaf-there mid slot (entry-held g.K.AsBytes.text c.args.self.now.arena c.self.inside.arena c.args.key (g.F.FnOnce.post c.args.make tt) (leaf_pointer c.in_ok-leaf.leaf) finds) in (
      (
        refl,
        λ w ok.
            let new = with_value_at mid slot w in
            let now = entry-written text old.arena mid c.args.key made (leaf_pointer c.in_ok-leaf.leaf) finds new w was (ap held_leaf found) (value-entered text mid slot was found w (c.as_value_mut.ensures.changes was w found) c.self.inside.root c.self.invariant.0) in
            let memory = subst (λ seen. GrowsOnlyWhere old.arena seen.arena (LacksRoomToInsert text old.arena old.root (text c.args.key))) (sym c.self.view_is) done.memory in
            record {
              entry = now.0;
              others = now.1;
              leaves = now.2;
              memory = grows-on old.arena mid new (LacksRoomToInsert text old.arena old.root (text c.args.key)) memory (λ kind. same-capacity mid new (c.as_value_mut.ensures.room w) kind);
              present_kept = λ present. subst (λ seen. HasValueNow text seen (record { arena = new; root = c.self.inside.root }) (text c.args.key) w) (c.self.view_is ∙ done.present_kept present)
                  (value-now text mid slot was found w (c.as_value_mut.ensures.changes was w found) c.self.inside.root c.self.invariant.0 (text c.args.key)
                  (text-held text old.arena mid c.args.key made (leaf_pointer c.in_ok-leaf.leaf) finds was (ap held_leaf found)) (c.as_value_mut.ensures.room w));
            },
        tt,
      ),
      record {
        writes_back = tt;
        value = value-found text old.arena mid c.args.key made (leaf_pointer c.in_ok-leaf.leaf) finds c.as_value_mut.result.now (λ leaf is. same_Some _ _ (sym c.as_value_mut.ensures.value ∙ ap (option_map leaf_value) (leaf-of (leaf_at mid slot) leaf is)));
        no_refusal = done.no_refusal;
        refusal_due = tt;
        entry_back = tt;
        no_room = tt;
        is_key = c.find_or_insert.ensures.is_key;
      },
    )

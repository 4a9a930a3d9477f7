use Rattle.art_tree.proofs.Names.{◌∙◌, refl, ap, sym, subst, ghost_name_of, option_copied_mut, option_map, slab_key, with_value_at, HoldsLeaf, entry_at, HasValueNow, IsFound, leaf-pointer-fits, spot-fits}
use Rattle.art_tree.proofs.SharedLemmas.LentValue.{on-some-none, value-invariant, value-now}
use Rattle.art_tree.proofs.RemoveLemmas.FoundLeaves.{found-held, held-there, value-read}
use Rattle.art_tree.proofs.tree.reading.ArtTree+K+V+PREFIX_LEN.get_mut.Goals as goal

pub returns-in_err-leaf : goal.returns-in_err-leaf
returns-in_err-leaf g c =
    let text = g.K.AsBytes.text in
    let absent = subst (IsFound text (record { arena = c.self.inside.arena; root = c.self.inside.root }) c.args.key.now) c.in_err-leaf.was c.find.ensures in
    let none = ap (λ seen. entry_at text seen.arena c.args.key.now) (sym c.self.view_is) ∙ absent in (
      (sym (ap ghost_name_of c.from_residual.ensures), λ w. on-some-none c.from_residual.result _ c.from_residual.ensures, c.self.view_is),
      record { writes_back = tt; value = ap option_copied_mut c.from_residual.ensures ∙ sym (ap (option_map (λ entry. entry.1)) none) },
    )

pub as_value_mut-requires : goal.as_value_mut-requires
as_value_mut-requires g c =
    let text = g.K.AsBytes.text in
    let at = subst (IsFound text (record { arena = c.self.inside.arena; root = c.self.inside.root }) c.args.key.now) c.in_ok-leaf.was c.find.ensures in
    let is_held : HoldsLeaf c.self.inside.arena (slab_key c.in_ok-leaf.leaf) = held-there (found-held at.reaches) in
    assumption (leaf-pointer-fits, spot-fits)

pub invariant_of-self-lent : goal.invariant_of-self-lent
invariant_of-self-lent g c = λ w.
    let text = g.K.AsBytes.text in
    let at = subst (IsFound text (record { arena = c.self.inside.arena; root = c.self.inside.root }) c.args.key.now) c.in_ok-leaf.was c.find.ensures in
    let here = found-held at.reaches in
    value-invariant text c.self.inside.arena (slab_key c.in_ok-leaf.leaf) here.leaf here.there w (c.as_value_mut.ensures.changes here.leaf w here.there) c.self.inside.root c.self.invariant.0 g.K.AsBytes.is_key c.self.invariant.1

pub returns : goal.returns
returns g c =
    let text = g.K.AsBytes.text in
    let old = c.self.inside.arena in
    let key = slab_key c.in_ok-leaf.leaf in
    let at = subst (IsFound text (record { arena = old; root = c.self.inside.root }) c.args.key.now) c.in_ok-leaf.was c.find.ensures in
    let here = found-held at.reaches in (
      (
        refl,
        λ w. subst (λ seen. HasValueNow text seen (record { arena = with_value_at old key w; root = c.self.inside.root }) c.args.key.now w) c.self.view_is
            (value-now text old key here.leaf here.there w (c.as_value_mut.ensures.changes here.leaf w here.there) c.self.inside.root c.self.invariant.0 c.args.key.now here.has (c.as_value_mut.ensures.room w)),
        refl,
      ),
      record { writes_back = tt; value = sym (value-read here c.as_value_mut.result.now c.as_value_mut.ensures.value) ∙ ap (λ seen. option_map (λ entry. entry.1) (entry_at text seen.arena c.args.key.now)) c.self.view_is },
    )

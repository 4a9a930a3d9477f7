use Rattle.art_tree.proofs.Names.{◌∙◌, ap, sym, subst, [], slab_key, IsArt, entry_at, if_none_always, if_some_none, leaf-pointer-fits}
use Rattle.art_steps.proofs.SharedLemmas.DictionaryLemmas.{empty-entry, end-held, end-entry, end-within, slot-held}
use Rattle.art_tree.proofs.SharedLemmas.TreeLaws.{apart-there, ascend-there}
use Rattle.art_tree.proofs.tree.ends.ArtTree+K+V+PREFIX_LEN.end_entry.Goals as goal

pub returns-in_err-root : goal.returns-in_err-root
returns-in_err-root g c =
    let text = g.K.AsBytes.text in
    let nothing = subst (IsArt text c.self.inside.arena) c.in_err-root.was c.self.invariant.0 in
    record {
      entry = if_some_none c.from_residual.result _ c.from_residual.ensures;
      at_end = if_some_none c.from_residual.result _ c.from_residual.ensures;
      none = if_none_always c.from_residual.result _ (λ key. ap (λ seen. entry_at text seen.arena key) (sym c.self.view_is) ∙ empty-entry text c.self.inside.arena nothing key);
    }

pub as_key_value_ref-requires : goal.as_key_value_ref-requires
as_key_value_ref-requires g c =
    let text = g.K.AsBytes.text in
    let alone = subst (IsArt text c.self.inside.arena) c.in_ok-root.was c.self.invariant.0 in
    let at_end = c.end_leaf-leaf.ensures.at_end (record { tree = alone.0; path = []; at_root = alone.1.is_tree.at_root; stands = alone.1.is_tree.stands; sound = alone.1.is_tree.sound }) in
    let there = end-held text c.self.inside.arena c.args.end c.in_ok-root.root alone.0 alone.1 c.end_leaf-leaf.result at_end in
    let is_held = slot-held c.self.inside.arena (slab_key c.end_leaf-leaf.result) there.0 there.1 in
    assumption leaf-pointer-fits

pub returns-clause-entry : goal.returns-clause-entry
returns-clause-entry g c =
    let text = g.K.AsBytes.text in
    let alone = subst (IsArt text c.self.inside.arena) c.in_ok-root.was c.self.invariant.0 in
    let at_end = c.end_leaf-leaf.ensures.at_end (record { tree = alone.0; path = []; at_root = alone.1.is_tree.at_root; stands = alone.1.is_tree.stands; sound = alone.1.is_tree.sound }) in
    let key = c.as_key_value_ref.result.0.now in
    ap (λ seen. entry_at text seen.arena (text key)) (sym c.self.view_is)
    ∙ end-entry text c.self.inside.arena c.args.end c.in_ok-root.root alone.0 alone.1 c.end_leaf-leaf.result at_end key c.as_key_value_ref.result.1.now c.as_key_value_ref.ensures.key c.as_key_value_ref.ensures.value
    (apart-there alone.1)

pub returns-clause-at_end : goal.returns-clause-at_end
returns-clause-at_end g c = λ other some.
    let text = g.K.AsBytes.text in
    let alone = subst (IsArt text c.self.inside.arena) c.in_ok-root.was c.self.invariant.0 in
    let at_end = c.end_leaf-leaf.ensures.at_end (record { tree = alone.0; path = []; at_root = alone.1.is_tree.at_root; stands = alone.1.is_tree.stands; sound = alone.1.is_tree.sound }) in
    end-within text c.self.inside.arena c.args.end c.in_ok-root.root alone.0 alone.1 c.end_leaf-leaf.result at_end c.as_key_value_ref.result.0.now c.as_key_value_ref.result.1.now c.as_key_value_ref.ensures.key c.as_key_value_ref.ensures.value
    (ascend-there alone.1) other (λ none. some (ap (λ seen. entry_at text seen.arena other) (sym c.self.view_is) ∙ none))

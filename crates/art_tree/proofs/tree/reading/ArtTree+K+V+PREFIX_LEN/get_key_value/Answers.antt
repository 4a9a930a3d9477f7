use Rattle.art_tree.proofs.Names.{◌∙◌, ap, sym, subst, slab_key, HoldsLeaf, entry_at, IsFound, leaf-pointer-fits, spot-fits}
use Rattle.art_steps.proofs.SharedLemmas.DictionaryLemmas.{nothing-mapped}
use Rattle.art_tree.proofs.RemoveLemmas.FoundLeaves.{entry-read, found-held, held-there}
use Rattle.art_tree.proofs.tree.reading.ArtTree+K+V+PREFIX_LEN.get_key_value.Goals as goal

pub returns-in_err-leaf : goal.returns-in_err-leaf
returns-in_err-leaf g c = nothing-mapped _ c.from_residual.result _ c.from_residual.ensures (subst (IsFound g.K.AsBytes.text c.args.self.now c.args.key.now) c.in_err-leaf.was c.find.ensures)

pub as_key_value_ref-requires : goal.as_key_value_ref-requires
as_key_value_ref-requires g c =
    let text = g.K.AsBytes.text in
    let found = subst (λ seen. IsFound text seen c.args.key.now c.find.result) (sym c.self.view_is) c.find.ensures in
    let at = subst (IsFound text (record { arena = c.self.inside.arena; root = c.self.inside.root }) c.args.key.now) c.in_ok-leaf.was found in
    let is_held : HoldsLeaf c.self.inside.arena (slab_key c.in_ok-leaf.leaf) = held-there (found-held at.reaches) in
    assumption (leaf-pointer-fits, spot-fits)

pub returns : goal.returns
returns g c =
    let text = g.K.AsBytes.text in
    let found = subst (λ seen. IsFound text seen c.args.key.now c.find.result) (sym c.self.view_is) c.find.ensures in
    let at = subst (IsFound text (record { arena = c.self.inside.arena; root = c.self.inside.root }) c.args.key.now) c.in_ok-leaf.was found in
    let read = c.as_key_value_ref.ensures in
    sym (entry-read (found-held at.reaches) c.as_key_value_ref.result.0.now c.as_key_value_ref.result.1.now read.key read.value) ∙ ap (λ seen. entry_at text seen.arena c.args.key.now) c.self.view_is

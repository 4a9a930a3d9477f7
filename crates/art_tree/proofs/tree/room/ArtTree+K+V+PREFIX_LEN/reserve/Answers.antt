use Rattle.art_tree.proofs.Names.{◌∙◌, ap, entry_at}
use Rattle.art_steps.proofs.SharedLemmas.ExchangedTree.{art-same}
use Rattle.art_tree.proofs.SharedLemmas.KeptEntries.{art-entries-stay}
use Rattle.art_tree.proofs.SharedLemmas.KeyLemmas.{keys-same}
use Rattle.art_tree.proofs.tree.room.ArtTree+K+V+PREFIX_LEN.reserve.Goals as goal

pub invariant_of-self : goal.invariant_of-self
invariant_of-self g c =
    let text = g.K.AsBytes.text in
    let old = c.self.inside.arena in
    let new = c.reserve.new.self in
    let kept = c.reserve.ensures.nodes_kept in
    let entries = art-entries-stay text old new kept c.self.inside.root c.self.invariant.0 in
    (art-same text old new kept c.self.inside.root c.self.invariant.0, keys-same text g.K.AsBytes.is_key old new c.self.invariant.1 entries)

pub returns-clause-same_entries : goal.returns-clause-same_entries
returns-clause-same_entries g c = λ x.
    let text = g.K.AsBytes.text in
    art-entries-stay text c.self.inside.arena c.reserve.new.self c.reserve.ensures.nodes_kept c.self.inside.root c.self.invariant.0 x ∙ ap (λ seen. entry_at text seen.arena x) c.self.view_is

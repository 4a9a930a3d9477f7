use Rattle.art_tree.proofs.Names.{◌∙◌, ap, sym, length, entries_of}
use Rattle.art_tree.proofs.SharedLemmas.EntryCounts.{art-counted}
use Rattle.art_tree.proofs.tree.reading.ArtTree+K+V+PREFIX_LEN.len.Goals as goal

pub returns : goal.returns
returns g c =
    let text = g.K.AsBytes.text in
    c.leaf_count.ensures ∙ sym (art-counted text c.self.inside.arena c.self.inside.root c.self.invariant.0) ∙ ap (λ seen. length (entries_of text seen.arena)) c.self.view_is

use Rattle.art_tree.proofs.tree.ends.ArtTree+K+V+PREFIX_LEN.last.Goals as goal

pub returns-clause-greatest : goal.returns-clause-greatest
returns-clause-greatest g c = c.end_entry.ensures.at_end

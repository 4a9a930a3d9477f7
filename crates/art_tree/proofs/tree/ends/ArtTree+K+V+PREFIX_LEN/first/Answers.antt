use Rattle.art_tree.proofs.tree.ends.ArtTree+K+V+PREFIX_LEN.first.Goals as goal

pub returns-clause-least : goal.returns-clause-least
returns-clause-least g c = c.end_entry.ensures.at_end

use Rattle.art_map.proofs.EndLemmas.{first-and-rest, head-rest}
use Rattle.art_map.proofs.ends.take_first.Goals as goal

pub returns-then-not-is_empty-clause-map : goal.returns-then-not-is_empty-clause-map
returns-then-not-is_empty-clause-map g c =
    let head = c.args.head.now.entries in let rest = c.remove_at.new.self.entries in
    head-rest g.K.KeyBytes.order g.K.KeyBytes.is_key g.K.KeyBytes.encoded c.remove_at.result head _ c.requires
    rest (first-and-rest head rest c.remove_at.result c.remove_at.ensures.entry c.remove_at.ensures.entries)

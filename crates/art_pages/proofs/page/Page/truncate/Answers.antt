use Rattle.art_pages.specs.Entries.{IsIndexable}
use Rattle.art_pages.proofs.KeptLemmas.{kept-same, kept-take}
use Rattle.art_pages.proofs.page.Page.truncate.Goals as goal

pub invariant_of-self : goal.invariant_of-self
invariant_of-self g c =
    let order = g.K.KeyBytes.order in let is_key = IsIndexable g.K.KeyBytes.is_key g.K.KeyBytes.encoded in
    kept-same order is_key _ c.truncate.new.self.items c.truncate.ensures.items (kept-take order is_key c.args.len c.self.inside.pairs.items c.self.invariant)

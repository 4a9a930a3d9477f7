use Rattle.art_pages.specs.Entries.{IsIndexable}
use Rattle.art_pages.proofs.KeptLemmas.{kept-nil}
use Rattle.art_pages.proofs.page.Page.clear.Goals as goal

pub invariant_of-self : goal.invariant_of-self
invariant_of-self g c = kept-nil g.K.KeyBytes.order (IsIndexable g.K.KeyBytes.is_key g.K.KeyBytes.encoded) c.clear.new.self.items c.clear.ensures.items

use Rattle.art_pages.specs.Entries.{IsIndexable}
use Rattle.art_pages.proofs.KeptLemmas.{kept-nil}
use Rattle.art_pages.proofs.page.Page.new.Goals as goal

pub invariant_of-result : goal.invariant_of-result
invariant_of-result g c = kept-nil g.K.KeyBytes.order (IsIndexable g.K.KeyBytes.is_key g.K.KeyBytes.encoded) c.new.result.items c.new.ensures.items

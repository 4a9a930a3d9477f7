use Rattle.std.proofs.Common.{◌∙◌, take, drop}
use Rattle.art_pages.specs.Entries.{IsIndexable}
use Rattle.art_pages.proofs.KeptLemmas.{kept-same, kept-take, kept-drop}
use Rattle.art_pages.proofs.page.Page.split_off.Goals as goal

pub invariant_of-self-2 : goal.invariant_of-self-2
invariant_of-self-2 g c =
    let order = g.K.KeyBytes.order in let is_key = IsIndexable g.K.KeyBytes.is_key g.K.KeyBytes.encoded in
    let pairs = c.self.inside.pairs.items in
    kept-same order is_key (take c.args.place pairs) c.split_off.new.self.items c.in_ok-upper.ensures.items (kept-take order is_key c.args.place pairs c.self.invariant)

pub invariant_of-result : goal.invariant_of-result
invariant_of-result g c =
    let order = g.K.KeyBytes.order in let is_key = IsIndexable g.K.KeyBytes.is_key g.K.KeyBytes.encoded in
    let pairs = c.self.inside.pairs.items in
    kept-same order is_key (drop c.args.place pairs) c.try_reserve_exact.new.self.items (c.try_reserve_exact.ensures.items ∙ c.in_ok-upper.ensures.tail) (kept-drop order is_key c.args.place pairs c.self.invariant)

use Rattle.std.proofs.Common.{◌∙◌, ap, sym, subst}
use Rattle.art_map.proofs.FewerLemmas.{IsFewer, fewer-none, head-fewer}
use Rattle.art_map.proofs.first_page.take_page.Goals as goal

pub returns-then-not-is_empty-clause-map : goal.returns-then-not-is_empty-clause-map
returns-then-not-is_empty-clause-map g c =
    let head = c.args.head.now.entries in
    let empty = ap (λ (p : _). p.entries) c.replace.ensures.after ∙ c.new.ensures in
    head-fewer g.K.KeyBytes.order g.K.KeyBytes.is_key g.K.KeyBytes.encoded head _ c.requires
    c.replace.new.dest.entries (subst (IsFewer head) (sym empty) (fewer-none head))

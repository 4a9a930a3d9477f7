use Rattle.std.proofs.Common.{◌≡◌, ◌∙◌, ap, sym, subst}
use Rattle.std.proofs.lemmas.List.Elements.{All-nil}
use Rattle.std.specs.Ordering.{is_gt}
use Rattle.std.specs.declared.cmp.Ordering.TheVariants.{Greater}
use Rattle.art_pages.specs.Entries.{AllBelow}
use Rattle.art_map.proofs.ManyLemmas.{all-below-last, is-greater, none-last}
use Rattle.art_map.proofs.map.Map.is_below.Goals as goal

pub returns-in-None : goal.returns-in-None
returns-in-None g c =
    λ is. subst (AllBelow (g.K.Ord.cmp c.args.key.now)) (sym (none-last c.args.self.now (sym c.in-None.ensures.last))) (All-nil (λ entry. g.K.Ord.cmp c.args.key.now entry.0 ≡ Greater))

pub returns-in-Some : goal.returns-in-Some
returns-in-Some g c = λ is.
    all-below-last g.K.Ord.cmp g.met.K.Ord.total c.args.key.now c.args.self.now _ c.last_key_value.ensures.ordered (sym c.in-Some.ensures.last)
    (is-greater (g.K.Ord.cmp c.args.key.now c.in-Some.last.now) (sym (c.is_gt.ensures ∙ ap is_gt c.cmp.ensures) ∙ is))

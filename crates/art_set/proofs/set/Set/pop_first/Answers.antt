use Rattle.std.proofs.Common.{◌≡◌, ◌∙◌, ap, sym}
use Rattle.std.proofs.lemmas.List.Elements.{All-map}
use Rattle.std.specs.Option.{is_some}
use Rattle.std.specs.declared.cmp.Ordering.TheVariants.{Less}
use Rattle.art_set.proofs.ListLemmas.{has-key}
use Rattle.art_set.proofs.set.Set.pop_first.Goals as goal

pub returns-clause-member : goal.returns-clause-member
returns-clause-member g c =
    sym (has-key c.self.inside.entries c.args.self.now c.self.view_is (g.K.Ord.cmp c.in-Some.key)) ∙ ap is_some c.in-Some.ensures.value

pub returns-clause-all_above : goal.returns-clause-all_above
returns-clause-all_above g c =
    All-map (λ other. g.K.Ord.cmp c.in-Some.key other ≡ Less) (λ entry. entry.0) c.pop_first.new.self c.in-Some.ensures.all_above

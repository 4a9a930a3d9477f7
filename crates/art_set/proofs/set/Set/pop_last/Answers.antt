use Rattle.std.proofs.Common.{◌≡◌, ◌∙◌, ap, sym}
use Rattle.std.proofs.lemmas.List.Elements.{All-map}
use Rattle.std.specs.Option.{is_some}
use Rattle.std.specs.declared.cmp.Ordering.TheVariants.{Greater}
use Rattle.art_set.proofs.ListLemmas.{ends-with-key, has-key}
use Rattle.art_set.proofs.set.Set.pop_last.Goals as goal

pub returns-clause-removal : goal.returns-clause-removal
returns-clause-removal g c =
    ends-with-key c.self.inside.entries c.args.self.now c.self.view_is c.pop_last.new.self _ c.in-Some.ensures.removal

pub returns-clause-member : goal.returns-clause-member
returns-clause-member g c =
    sym (has-key c.self.inside.entries c.args.self.now c.self.view_is (g.K.Ord.cmp c.in-Some.key)) ∙ ap is_some c.in-Some.ensures.value

pub returns-clause-all_below : goal.returns-clause-all_below
returns-clause-all_below g c =
    All-map (λ other. g.K.Ord.cmp c.in-Some.key other ≡ Greater) (λ entry. entry.0) c.pop_last.new.self c.in-Some.ensures.all_below

use Rattle.std.proofs.Common.{◌∙◌, ap, subst, sym}
use Rattle.art_tree.specs.Entries.{entries_of}
use Rattle.art_routes.specs.Keys.{key_text}
use Rattle.art_routes.specs.LeafRuns.{IsRun, run_entries}
use Rattle.art_routes.proofs.SideLemmas.{all-between, filter-all}
use Rattle.art_routes.proofs.table.RouteTableIntoIterator.into_iter.Goals as goal

pub invariant_of-result : goal.invariant_of-result
invariant_of-result g c = subst (λ arena. IsRun arena c.ends_between-ends.result) (sym c.into_arena.ensures) c.ends_between-ends.ensures.run

pub returns : goal.returns
returns g c = record {
  into_iter_gives =
      ap (λ arena. run_entries arena c.ends_between-ends.result) c.into_arena.ensures
      ∙ c.ends_between-ends.ensures.entries
      ∙ filter-all _ (λ route. all-between (key_text route.0)) (entries_of key_text c.self.inside.tree.arena)
      ∙ c.self.view_is;
}

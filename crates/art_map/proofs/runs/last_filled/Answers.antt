use Rattle.std.proofs.Common.{◌≡◌, ◌∙◌, ◌++◌, [], arith, sym, ap}
use Rattle.std.proofs.lemmas.List.{append-nil}
use Rattle.std.proofs.lemmas.Grind.{common_steps}
use Rattle.art_map.specs.Pages.{entries_in}
use Rattle.art_map.specs.Trees.{pages_in}
use Rattle.art_map.specs.Runs.{pages_between}
use Rattle.art_map.proofs.RunLemmas.{entries_last}
use Rattle.art_map.proofs.runs.last_filled.Goals as goal

pub pages-preserved : goal.pages-preserved
pages-preserved g c =
    let rest = pages_in (λ run. pages_between run.0.now.arena run.1 run.2) c.take_last.result.1 in
    let empty : c.take_last.result.0.now ≡ [] = grind (arith, common_steps, c.if-not-is_empty.false, c.is_empty.ensures) in
    let taken = c.take_last.ensures.taken in (
      c.take_last.ensures.rest,
      sym (append-nil (entries_in rest))
          ∙ ap (λ l. entries_in rest ++ l) (sym empty)
          ∙ sym (entries_last rest (taken.0, c.take_last.result.0.now))
          ∙ ap entries_in (sym taken.1)
          ∙ ap (λ run. entries_in (pages_in (λ run. pages_between run.0.now.arena run.1 run.2) run)) (sym c.in-Some.is)
          ∙ c.pages.invariant.1,
    )

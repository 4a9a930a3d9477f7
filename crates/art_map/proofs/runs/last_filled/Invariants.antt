use Rattle.std.proofs.Common.{◌≡◌, length, IfSome}
use Rattle.art_map.specs.Pages.{entries_in}
use Rattle.art_map.specs.Trees.{pages_in}
use Rattle.art_map.specs.Runs.{IsRun, pages_between}
use Rattle.art_map.proofs.runs.last_filled.Given as goal

-- the pages before this one have no entries
abbrev pub invariant-pages : goal.invariant-pages
invariant-pages g l =
    IfSome l.run (λ run. IsRun run.0.now.arena run.1 run.2)
    × (entries_in (pages_in (λ run. pages_between run.0.now.arena run.1 run.2) l.run)
    ≡ entries_in (pages_in (λ run. pages_between run.0.now.arena run.1 run.2) l.initial.run))

abbrev pub decreases-pages : goal.decreases-pages
decreases-pages g l = length (pages_in (λ run. pages_between run.0.now.arena run.1 run.2) l.run)

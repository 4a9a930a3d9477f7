use Rattle.std.proofs.Common.{◌≡◌, ◌+◌, List, length}
use Rattle.art_map.proofs.EndLemmas.{leaves-left}
use Rattle.art_map.proofs.WalkLemmas.{IsWalk}
use Rattle.art_map.specs.Pages.{entries_in, IsMap}
use Rattle.art_map.specs.Trees.{pages_of}
use Rattle.art_map.proofs.walk.retain_over.Given as goal

abbrev pub invariant-pages : goal.invariant-pages
invariant-pages g l =
    IsWalk g.F.Keeps.step g.F.Keeps.accepts l.initial.test (entries_in (pages_of l.initial.tree.arena)) l.tree.arena l.at l.test
    × ((head : List (g.row.K.Denot × g.row.V.Denot)) → IsMap g.K.KeyBytes.order g.K.KeyBytes.is_key g.K.KeyBytes.encoded head (pages_of l.initial.tree.arena)
    → IsMap g.K.KeyBytes.order g.K.KeyBytes.is_key g.K.KeyBytes.encoded head (pages_of l.tree.arena))
    × (l.len + length (entries_in (pages_of l.initial.tree.arena)) ≡ l.initial.len + length (entries_in (pages_of l.tree.arena)))

abbrev pub decreases-pages : goal.decreases-pages
decreases-pages g l = leaves-left l.tree.arena l.at

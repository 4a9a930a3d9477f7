use Rattle.std.proofs.Common.{◌≡◌}
use Rattle.std.proofs.iter.Next as it
use Rattle.std.specs.Iterator.{EndsFrom, items_left}
use Rattle.art_pages.specs.Entries.{IsOrdered}
use Rattle.art_map.specs.Inserts.{insert_all}
use Rattle.art_map.proofs.map.Map.extend.Given as goal

-- the entries that came are in
abbrev pub invariant-each : goal.invariant-each
invariant-each g l =
    it.Ran g.I.IntoIter.Iterator.can_next (EndsFrom g.I.IntoIter.Iterator.remaining) (items_left g.I.IntoIter.Iterator.remaining) g.I.IntoIter.Iterator.next_gives
    (λ items. (l.self ≡ insert_all g.K.Ord.cmp l.initial.self items) × IsOrdered g.K.Ord.cmp l.self) l.initial.rest l.rest

abbrev pub decreases-each : goal.decreases-each
decreases-each g l = items_left g.I.IntoIter.Iterator.remaining l.rest

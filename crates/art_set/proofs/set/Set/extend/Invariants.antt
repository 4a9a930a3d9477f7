use Rattle.std.proofs.Common.{◌≡◌}
use Rattle.std.proofs.iter.Next as it
use Rattle.std.specs.Iterator.{EndsFrom, items_left}
use Rattle.std.specs.List.Sorted.{IsStrictlySortedBy}
use Rattle.art_set.specs.KeyLists.{insert_keys}
use Rattle.art_set.proofs.set.Set.extend.Given as goal

-- the keys that came are in
abbrev pub invariant-each : goal.invariant-each
invariant-each g l =
    it.Ran g.I.IntoIter.Iterator.can_next (EndsFrom g.I.IntoIter.Iterator.remaining) (items_left g.I.IntoIter.Iterator.remaining) g.I.IntoIter.Iterator.next_gives
    (λ items. (l.self ≡ insert_keys g.K.Ord.cmp l.initial.self items) × IsStrictlySortedBy g.K.Ord.cmp l.self) l.initial.rest l.rest

abbrev pub decreases-each : goal.decreases-each
decreases-each g l = items_left g.I.IntoIter.Iterator.remaining l.rest

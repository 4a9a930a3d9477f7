use Rattle.std.proofs.Common.{length, ap, sym, []}
use Rattle.art_map.specs.Pages.{map_entries}
use Rattle.art_map.proofs.TakeLemmas.{no-entries}
use Rattle.art_map.proofs.map.Map.clear.Goals as goal

pub invariant_of-self : goal.invariant_of-self
invariant_of-self g c = (
  no-entries g.K.KeyBytes.order g.K.KeyBytes.is_key g.K.KeyBytes.encoded c.clear.new.self.entries c.clear.ensures.entries,
  sym (ap (λ l. length (map_entries l [])) c.clear.ensures.entries),
)

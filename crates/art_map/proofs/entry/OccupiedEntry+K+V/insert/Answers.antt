use Rattle.std.proofs.Common.{◌∙◌, sym, ap}
use Rattle.std.specs.BTreeMap.{is_at}
use Rattle.std.specs.Option.{option_copied_mut}
use Rattle.art_map.proofs.ValueLemmas.{set-absent}
use Rattle.art_map.proofs.entry.OccupiedEntry+K+V.insert.Goals as goal

pub returns-in_err-held-clause-entries : goal.returns-in_err-held-clause-entries
returns-in_err-held-clause-entries g c =
    let old = c.args.self.now in
    sym (set-absent (is_at (g.K.Ord.cmp old.key)) old.map.now c.args.value (sym c.get_mut.ensures.value ∙ ap option_copied_mut c.in_err-held.was))

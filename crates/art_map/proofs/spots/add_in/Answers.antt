use Rattle.art_map.proofs.ValueLemmas.{equal-itself, place-added}
use Rattle.art_map.proofs.spots.add_in.Goals as goal

pub returns-in-Ok-clause-there : goal.returns-in-Ok-clause-there
returns-in-Ok-clause-there g c =
    let cmp = g.K.Ord.cmp in
    place-added (cmp c.args.key) c.args.page.now.entries c.args.place (c.args.key, c.args.value) c.requires.gap (equal-itself cmp g.met.K.Ord.total c.args.key)
    c.insert_at.new.self.entries c.in-Ok.ensures.placed

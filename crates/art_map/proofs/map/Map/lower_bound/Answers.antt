use Rattle.std.proofs.Common.{◌∙◌, ◌++◌, ap}
use Rattle.art_map.specs.Ranges.{is_from}
use Rattle.art_map.proofs.CursorLemmas.{parted, sides-from}
use Rattle.art_map.proofs.map.Map.lower_bound.Goals as goal

pub returns-clause-before : goal.returns-clause-before
returns-clause-before g c =
    let found = c.entries_from-after.ensures in
    ap (λ sides. sides.0)
    (c.cursor_at.ensures
    ∙ sides-from (λ (entry : g.row.K.Denot × g.row.V.Denot). is_from g.Q.RadixQuery.compare c.args.bound entry.0) c.args.self.now _ c.entries_from-after.result c.self.view_is
    found.0 found.1 found.2)

pub returns-clause-after : goal.returns-clause-after
returns-clause-after g c =
    let found = c.entries_from-after.ensures in
    ap (λ sides. sides.1)
    (c.cursor_at.ensures
    ∙ sides-from (λ (entry : g.row.K.Denot × g.row.V.Denot). is_from g.Q.RadixQuery.compare c.args.bound entry.0) c.args.self.now _ c.entries_from-after.result c.self.view_is
    found.0 found.1 found.2)

pub returns-clause-whole : goal.returns-clause-whole
returns-clause-whole g c =
    let found = c.entries_from-after.ensures in
    let sides = c.cursor_at.ensures ∙ sides-from (λ (entry : g.row.K.Denot × g.row.V.Denot). is_from g.Q.RadixQuery.compare c.args.bound entry.0) c.args.self.now _ c.entries_from-after.result c.self.view_is found.0 found.1 found.2 in
    (λ i. (sides i).0 ++ (sides i).1) ∙ parted (λ (entry : g.row.K.Denot × g.row.V.Denot). is_from g.Q.RadixQuery.compare c.args.bound entry.0) c.args.self.now _ c.entries_from-after.result c.self.view_is found.0 found.1

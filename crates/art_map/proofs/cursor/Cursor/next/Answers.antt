use Rattle.std.proofs.Common.{◌≡◌, ◌∙◌, ◌++◌, ap, subst}
use Rattle.std.specs.Borrow.{Bor}
use Rattle.art_map.specs.Cursors.{AreSides}
use Rattle.art_map.proofs.CursorLemmas.{moved-on}
use Rattle.art_map.proofs.cursor.Cursor.next.Goals as goal

pub invariant_of-self : goal.invariant_of-self
invariant_of-self g c =
    let list = c.self.inside.map.now in
    let whole : c.args.self.now.0 ++ c.after-after.result ≡ list =
    ap (λ l. c.args.self.now.0 ++ l) c.after-after.ensures ∙ subst (AreSides list) c.self.view_is c.self.invariant in
    (moved-on (λ (entry : Bor g.row.K.Denot × Bor g.row.V.Denot). (entry.0.now, entry.1.now)) list c.args.self.now.0 c.after-after.result c.next-entry.new.self
    whole c.next-entry.result c.next-entry.ensures.steps).0

pub returns-clause-passed : goal.returns-clause-passed
returns-clause-passed g c =
    let list = c.self.inside.map.now in
    let whole : c.args.self.now.0 ++ c.after-after.result ≡ list =
    ap (λ l. c.args.self.now.0 ++ l) c.after-after.ensures ∙ subst (AreSides list) c.self.view_is c.self.invariant in
    (moved-on (λ (entry : Bor g.row.K.Denot × Bor g.row.V.Denot). (entry.0.now, entry.1.now)) list c.args.self.now.0 c.after-after.result c.next-entry.new.self
    whole c.next-entry.result c.next-entry.ensures.steps).1

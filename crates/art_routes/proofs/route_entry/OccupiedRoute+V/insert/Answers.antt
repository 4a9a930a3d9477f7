use Rattle.std.proofs.Common.{◌∙◌, ap, sym}
use Rattle.std.specs.Option.{option_copied_mut}
use Rattle.art_routes.specs.Tables.{routes_with_value}
use Rattle.art_routes.proofs.EnteredLemmas.{no-value-changes, some-there}
use Rattle.art_routes.proofs.route_entry.OccupiedRoute+V.insert.Goals as goal

pub returns-in_err-held-clause-routes : goal.returns-in_err-held-clause-routes
returns-in_err-held-clause-routes g c =
    let old = c.args.self.now in
    c.get_mut.follows.holds-at-none
    ∙ sym (no-value-changes old.network c.args.value old.table.now (sym c.get_mut.ensures.value ∙ ap option_copied_mut c.in_err-held.was))

pub returns-clause-routes : goal.returns-clause-routes
returns-clause-routes g c =
    let old = c.args.self.now in
    let left = c.replace.new.dest in
    some-there c.get_mut.result c.in_ok-held.held _ c.in_ok-held.was (c.get_mut.follows.holds left) ∙ ap (routes_with_value old.table.now old.network) c.replace.ensures.after

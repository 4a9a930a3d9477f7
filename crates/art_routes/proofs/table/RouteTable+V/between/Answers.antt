use Rattle.std.proofs.Common.{◌∙◌, ap, filter, subst, sym}
use Rattle.art_routes.specs.Keys.{key_text}
use Rattle.art_routes.specs.LeafRuns.{IsRun, run_entries}
use Rattle.art_routes.specs.NearestLeaves.{is_between}
use Rattle.art_routes.proofs.RouteLemmas.{AreNetworks}
use Rattle.art_routes.proofs.table.RouteTable+V.between.Goals as goal

pub invariant_of-result : goal.invariant_of-result
invariant_of-result g c = subst (λ arena. IsRun arena c.ends_between-ends.result) (sym c.arena.ensures.arena) c.ends_between-ends.ensures.run

pub returns-clause-routes : goal.returns-clause-routes
returns-clause-routes g c =
    ap (λ arena. run_entries arena c.ends_between-ends.result) c.arena.ensures.arena
    ∙ c.ends_between-ends.ensures.entries
    ∙ ap (filter (λ route. is_between c.args.start_side c.args.start.now c.args.end_side c.args.end.now (key_text route.0))) c.self.view_is

pub returns-clause-networks : goal.returns-clause-networks
returns-clause-networks g c = subst (λ rs. AreNetworks rs) c.self.view_is c.self.invariant

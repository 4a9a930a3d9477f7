use Rattle.std.proofs.Common.{◌∙◌, subst, sym}
use Rattle.art_tree.proofs.EntryLaws.{list-same}
use Rattle.art_routes.specs.Keys.{key_text}
use Rattle.art_routes.proofs.RouteLemmas.{AreNetworks}
use Rattle.art_routes.proofs.table.RouteTable+V.reserve.Goals as goal

pub invariant_of-self : goal.invariant_of-self
invariant_of-self g c = subst (λ es. AreNetworks es) (sym (list-same key_text c.self.inside.tree.arena c.reserve_entries.new.self.arena c.reserve_entries.ensures.same_entries)) c.self.invariant

pub returns : goal.returns
returns g c = record { same_routes = list-same key_text c.self.inside.tree.arena c.reserve_entries.new.self.arena c.reserve_entries.ensures.same_entries ∙ c.self.view_is }

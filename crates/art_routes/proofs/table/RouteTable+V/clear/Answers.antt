use Rattle.std.proofs.Common.{subst, sym}
use Rattle.std.proofs.lemmas.List.Elements.{All-nil}
use Rattle.art_tree.proofs.EntryLaws.{no-list}
use Rattle.art_routes.specs.Keys.{key_text}
use Rattle.art_routes.specs.Networks.{IsNetwork}
use Rattle.art_routes.proofs.RouteLemmas.{AreNetworks}
use Rattle.art_routes.proofs.table.RouteTable+V.clear.Goals as goal

pub invariant_of-self : goal.invariant_of-self
invariant_of-self g c = subst (λ es. AreNetworks es) (sym (no-list key_text c.clear.new.self.arena c.clear.ensures.no_entry)) (All-nil (λ entry. IsNetwork entry.0))

pub returns : goal.returns
returns g c = no-list key_text c.clear.new.self.arena c.clear.ensures.no_entry

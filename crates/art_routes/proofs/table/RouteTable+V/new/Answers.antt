use Rattle.std.proofs.Common.{subst, sym}
use Rattle.std.proofs.lemmas.List.Elements.{All-nil}
use Rattle.art_tree.proofs.EntryLaws.{no-list}
use Rattle.art_routes.specs.Keys.{key_text}
use Rattle.art_routes.specs.Networks.{IsNetwork}
use Rattle.art_routes.proofs.RouteLemmas.{AreNetworks}
use Rattle.art_routes.proofs.table.RouteTable+V.new.Goals as goal

pub invariant_of-result : goal.invariant_of-result
invariant_of-result g c = subst (λ es. AreNetworks es) (sym (no-list key_text c.new.result.arena c.new.ensures.no_entry)) (All-nil (λ entry. IsNetwork entry.0))

pub returns : goal.returns
returns g c = no-list key_text c.new.result.arena c.new.ensures.no_entry
